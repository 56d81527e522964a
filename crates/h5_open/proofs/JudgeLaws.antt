-- What the messages of a header say of the object, and which rule they break.
use Rattle.std.proofs.Common.{◌≡◌, inl, inr, ℕ, ◌+◌, ◌≤◌, List, [], ◌∷◌, refl, sym, ◌∙◌, ap, Option, Some, None, true, false, cond, arith}
use Rattle.std.specs.Prelude.{◌==◌, is_some, option_map, Ok, Err, ok_or}
use Rattle.std.specs.List.{find}
use Rattle.std.specs.Borrow.{Bor}
use Rattle.std.specs.Bool.{MatchBool}
use Rattle.std.specs.Option.{option_copied}
use Rattle.std.proofs.lemmas.Bool.{cases_lt}
use Rattle.h5_model.specs.Format.Messages.{Message, count_of, first_body}
use Rattle.h5_model.specs.Faults.HeaderFaults.{SomeBody}
use Rattle.h5_header.proofs.FoundLaws.{found, none_stands}

-- the first body of a type is that of some message
pub first_fails : {A : Type 0} (f : List ℕ → Option A) (kind : ℕ) (ms : List Message) (body : List ℕ) → Some body ≡ first_body kind ms → f body ≡ None
    → SomeBody kind ms (λ b. f b ≡ None)
first_fails f kind ms body is none = let s = found kind ms body (sym is) in (s.0, s.1, s.2, ap f s.3 ∙ none)

pub first_counted : (kind : ℕ) (ms : List Message) (body : List ℕ) → Some body ≡ first_body kind ms → count_of kind ms ≡ 0 → ⊥
first_counted kind [] body is none = absurd (cc)
first_counted kind (m ∷ ms) body is none = elim (m.kind == kind) as (λ b. Some body ≡ option_map (λ (x : Message). x.body) (cond b (Some m) (find (λ (x : Message). x.kind == kind) ms))
    → cond b 1 0 + count_of kind ms ≡ 0 → ⊥) [
      | true ↦ λ here zero. omega (arith, zero)
      | false ↦ λ later zero. first_counted kind ms body later (omega (arith, zero))
    ] is none

-- whether one is found says whether there is one
pub some_counted : (kind : ℕ) (ms : List Message) (r : Option (Bor (List ℕ))) → option_copied r ≡ first_body kind ms
    → MatchBool (is_some r) (1 ≤ count_of kind ms) (count_of kind ms ≡ 0)
some_counted kind ms None is = none_stands kind ms (sym is)
some_counted kind ms (Some b) is = elim (cases_lt 0 (count_of kind ms)) [
  | inl some ↦ omega (arith, some)
  | inr none ↦ absurd (first_counted kind ms b.now is (omega (arith, none)))
]

-- what a reader answers is what the definition gives
pub some_read : {A E : Type 0} (o : Option A) (e : E) (x : A) → Ok x ≡ ok_or o e → o ≡ Some x
some_read {A = A} None e x h = absurd (cc)
some_read {A = A} (Some y) e x h = let same : x ≡ y = cc in ap (λ (z : A). Some z) (sym same)

pub none_read : {A E : Type 0} (o : Option A) (e f : E) → Err f ≡ ok_or o e → o ≡ None
none_read None e f h = refl
none_read (Some y) e f h = absurd (cc)
