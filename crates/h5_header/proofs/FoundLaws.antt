-- The first message of a type, and its body in the image.
use Rattle.std.proofs.Common.{◌≡◌, ℕ, suc, ◌+◌, ◌≤◌, List, [], ◌∷◌, length, subst, Option, Some, None, true, false, cond, ◌==◌, refl, sym, ap, ◌∙◌, arith, eqb-true}
use Rattle.std.specs.Prelude.{option_map, option_and_then}
use Rattle.std.proofs.lemmas.Option.{same_Some}
use Rattle.std.specs.List.{find, Contains}
use Rattle.h5_model.specs.Format.Messages.{Message, count_of, first_body}
use Rattle.h5_model.specs.Faults.HeaderFaults.{SomeBody}
use Rattle.std.specs.Borrow.{Bor}
use Rattle.std.specs.Option.{option_copied, IfSome, IsSome}
use Rattle.h5_bytes.specs.Bytes.{part}
use Rattle.h5_header.specs.Listed.{message_in, messages_in, IsWithin}
use Rattle.h5_header.specs.declared.message.Message.{Message as Placed}

-- a message of the type, with its body
abbrev Stands : ℕ → List Message → List ℕ → Type 0
Stands kind ms body = (m : Message) × Contains ms m × (m.kind ≡ kind) × (m.body ≡ body)

later : (kind : ℕ) (m : Message) (ms : List Message) (body : List ℕ) → Stands kind ms body → Stands kind (m ∷ ms) body
later kind m ms body s = (s.0, (suc s.1.0, omega (arith, s.1.1), s.1.2), s.2, s.3)

pub found : (kind : ℕ) (ms : List Message) (body : List ℕ) → first_body kind ms ≡ Some body → Stands kind ms body
found kind [] body h = absurd (cc)
found kind (m ∷ ms) body h = elim (m.kind == kind) as (λ b. (m.kind == kind) ≡ b
    → option_map (λ (x : Message). x.body) (cond b (Some m) (find (λ (x : Message). x.kind == kind) ms)) ≡ Some body → Stands kind (m ∷ ms) body) [
      | true ↦ λ e is. (m, (0, omega arith, refl), eqb-true m.kind kind e, same_Some m.body body is)
      | false ↦ λ e is. later kind m ms body (found kind ms body is)
    ] refl h

-- a type that stands has a first message
pub none_stands : (kind : ℕ) (ms : List Message) → first_body kind ms ≡ None → count_of kind ms ≡ 0
none_stands kind [] h = refl
none_stands kind (m ∷ ms) h = elim (m.kind == kind) as (λ b.
    option_map (λ (x : Message). x.body) (cond b (Some m) (find (λ (x : Message). x.kind == kind) ms)) ≡ None → cond b 1 0 + count_of kind ms ≡ 0) [
      | true ↦ λ is. absurd (cc)
      | false ↦ λ is. omega (arith, none_stands kind ms is)
    ] h

-- what the first message of a type says is what some message of the type says
pub among_some : {A : Type 0} (f : List ℕ → Option A) (kind : ℕ) (ms : List Message) (x : A) → option_and_then f (first_body kind ms) ≡ Some x
    → SomeBody kind ms (λ body. f body ≡ Some x)
among_some f kind ms x h = elim (first_body kind ms) as (λ o. first_body kind ms ≡ o → option_and_then f o ≡ Some x → SomeBody kind ms (λ body. f body ≡ Some x)) [
  | None ↦ λ e is. absurd (cc)
  | Some body ↦ λ e is. let s = found kind ms body e in (s.0, s.1, s.2, ap f s.3 ∙ is)
] refl h

pub among_none : {A : Type 0} (f : List ℕ → Option A) (kind : ℕ) (ms : List Message) → count_of kind ms ≡ 1 → option_and_then f (first_body kind ms) ≡ None
    → SomeBody kind ms (λ body. f body ≡ None)
among_none f kind ms once h = elim (first_body kind ms) as (λ o. first_body kind ms ≡ o → option_and_then f o ≡ None → SomeBody kind ms (λ body. f body ≡ None)) [
  | None ↦ λ e is. absurd (omega (arith, none_stands kind ms e, once))
  | Some body ↦ λ e is. let s = found kind ms body e in (s.0, s.1, s.2, ap f s.3 ∙ is)
] refl h

-- ---- the body in the image

-- where there is one message of a type, a body is found
pub one_stands : (kind : ℕ) (ms : List Message) (r : Option (Bor (List ℕ))) → option_copied r ≡ first_body kind ms → count_of kind ms ≡ 1 → IsSome r
one_stands kind ms None is once = absurd (omega (arith, none_stands kind ms (sym is), once))
one_stands kind ms (Some b) is once = refl

pub first_body-in : (image : List ℕ) (kind : ℕ) (list : List Placed)
    → first_body kind (messages_in image list) ≡ option_map (λ (m : Placed). part m.at m.size image) (find (λ (m : Placed). m.kind == kind) list)
first_body-in image kind [] = refl
first_body-in image kind (m ∷ ms) = elim (m.kind == kind) as (λ b.
    option_map (λ (x : Message). x.body) (cond b (Some (message_in image m)) (find (λ (x : Message). x.kind == kind) (messages_in image ms)))
    ≡ option_map (λ (x : Placed). part x.at x.size image) (cond b (Some m) (find (λ (x : Placed). x.kind == kind) ms))) [
      | true ↦ refl
      | false ↦ first_body-in image kind ms
    ]

-- what holds of each message holds of the one that is found
pub within_at : (end kind : ℕ) (list : List Placed) (m : Placed) → IsWithin end list → find (λ (x : Placed). x.kind == kind) list ≡ Some m → m.at + m.size ≤ end
within_at end kind [] m within here = absurd (cc)
within_at end kind (x ∷ xs) m within here = elim (x.kind == kind) as (λ b. cond b (Some x) (find (λ (y : Placed). y.kind == kind) xs) ≡ Some m → m.at + m.size ≤ end) [
  | true ↦ λ is. let same : x ≡ m = same_Some x m is in subst (λ (y : Placed). y.at + y.size ≤ end) same within.0
  | false ↦ λ is. within_at end kind xs m within.1 is
] here

-- the part of the image at the message that is found is the first body
pub copied_part : (image : List ℕ) (list : List Placed) (kind : ℕ) (m : Placed) (r : Option (Bor (List ℕ))) → IsWithin (length image) list
    → find (λ (x : Placed). x.kind == kind) list ≡ Some m → (m.at + m.size ≤ length image → IsSome r) → IfSome r (λ x. x.now ≡ part m.at m.size image)
    → option_copied r ≡ first_body kind (messages_in image list)
copied_part image list kind m None within here inside value =
    let none : false ≡ true = inside (within_at (length image) kind list m within here) in absurd (cc)
copied_part image list kind m (Some b) within here inside value =
    ap (λ (bytes : List ℕ). Some bytes) value ∙ ap (option_map (λ (x : Placed). part x.at x.size image)) (sym here) ∙ sym (first_body-in image kind list)
