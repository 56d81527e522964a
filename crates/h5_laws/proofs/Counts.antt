-- Messages of a type that stands once.
use Rattle.std.proofs.Common.{◌≡◌, ℕ, ◌+◌, ◌≤◌, List, [], ◌∷◌, refl, ap, arith, Some, true, false, Bool, inl, inr}
use Rattle.std.proofs.lemmas.Bool.Decides.{nat_tests}
use Rattle.std.specs.Prelude.{◌==◌, option_map}
use Rattle.std.specs.List.{find}
use Rattle.h5_model.specs.Format.Messages.{Message, count_of, first_body}
use Rattle.h5_laws.proofs.Lists.{In}

-- a type that is there is counted
pub counted : (kind : ℕ) (ms : List Message) (m : Message) → In m ms → m.kind ≡ kind → 1 ≤ count_of kind ms
counted kind [] m at is = absurd at
counted kind (x ∷ ms) m (inl e) is =
    let same : (x.kind == kind) ≡ true = grind (arith, nat_tests, ap (λ (y : Message). y.kind) e, is) in
    rw same (omega arith)
counted kind (x ∷ ms) m (inr at) is = let rest = counted kind ms m at is in omega (arith, rest)

only_step : (kind : ℕ) (ms : List Message) (x m : Message) → count_of kind (x ∷ ms) ≤ 1 → In m ms → m.kind ≡ kind
    → (count_of kind ms ≤ 1 → find (λ y. y.kind == kind) ms ≡ Some m) → find (λ y. y.kind == kind) (x ∷ ms) ≡ Some m
only_step kind ms x m low at is rest = go (x.kind == kind) refl where
  go : (b : Bool) → (x.kind == kind) ≡ b → find (λ y. y.kind == kind) (x ∷ ms) ≡ Some m
  go true same = let two : 1 + count_of kind ms ≤ 1 = rw same at low in absurd (omega (arith, two, counted kind ms m at is))
  go false same = let one : 0 + count_of kind ms ≤ 1 = rw same at low in rw same (rest (omega (arith, one)))

-- the one message of a type is the first
pub only_one : (kind : ℕ) (ms : List Message) (m : Message) → count_of kind ms ≤ 1 → In m ms → m.kind ≡ kind → find (λ x. x.kind == kind) ms ≡ Some m
only_one kind [] m low at is = absurd at
only_one kind (x ∷ ms) m low (inl e) is =
    let same : (x.kind == kind) ≡ true = grind (arith, nat_tests, ap (λ (y : Message). y.kind) e, is) in
    rw same (ap (λ (y : Message). Some y) e)
only_one kind (x ∷ ms) m low (inr at) is = only_step kind ms x m low at is (λ one. only_one kind ms m one at is)

pub only_body : (kind : ℕ) (ms : List Message) (m : Message) → count_of kind ms ≤ 1 → In m ms → m.kind ≡ kind → first_body kind ms ≡ Some m.body
only_body kind ms m low at is = ap (option_map (λ (x : Message). x.body)) (only_one kind ms m low at is)

none_step : (kind : ℕ) (ms : List Message) (m : Message) → (m.kind ≡ kind → ⊥) → count_of kind ms ≡ 0 → count_of kind (m ∷ ms) ≡ 0
none_step kind ms m other rest = go (m.kind == kind) refl where
  go : (b : Bool) → (m.kind == kind) ≡ b → count_of kind (m ∷ ms) ≡ 0
  go true same = absurd (other (let e : m.kind ≡ kind = grind (arith, nat_tests, same) in e))
  go false same = rw same (omega (arith, rest))

-- a type that no message has is not counted
pub none_counted : (kind : ℕ) (ms : List Message) → ((m : Message) → In m ms → m.kind ≡ kind → ⊥) → count_of kind ms ≡ 0
none_counted kind [] other = refl
none_counted kind (m ∷ ms) other = none_step kind ms m (other m (inl refl)) (none_counted kind ms (λ x at. other x (inr at)))
