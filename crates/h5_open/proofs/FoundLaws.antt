-- The messages of a header, by their types.
use Rattle.std.proofs.Common.{◌≡◌, ℕ, ◌+◌, ◌≤◌, List, [], ◌∷◌, refl, sym, ◌∙◌, subst, Some, true, false, cond, arith}
use Rattle.std.specs.Prelude.{◌==◌}
use Rattle.std.specs.List.{find}
use Rattle.std.proofs.lemmas.Bool.Decides.{nat_tests}
use Rattle.std.proofs.lemmas.Option.{same_Some}
use Rattle.h5_bytes.specs.declared.Block.{Block}
use Rattle.h5_model.specs.Format.MessageTypes.{symbol_table_kind}
use Rattle.h5_model.specs.Format.Messages.{Message, HasMessages, count_of}
use Rattle.h5_model.specs.Format.Reached.{kind_at}
use Rattle.h5_model.specs.Faults.HeaderFaults.{SomeMessage}
use Rattle.h5_header.specs.Kinds.{IsOfGroup}
use Rattle.h5_header.proofs.WalkLaws.DataLaws.{found_all}
use Rattle.h5_header.proofs.WalkLaws.MessagePlaces.{IsPlacedMessage, messages_placed}

-- the message that is found is of the type
pub found_kind : (k : ℕ) (ms : List Message) (m : Message) → find (λ (x : Message). x.kind == k) ms ≡ Some m → m.kind ≡ k
found_kind k [] m is = absurd (cc)
found_kind k (x ∷ ms) m is = elim (x.kind == k) as (λ b. (x.kind == k) ≡ b → cond b (Some x) (find (λ (y : Message). y.kind == k) ms) ≡ Some m → m.kind ≡ k) [
  | true ↦ λ same e. let kind : x.kind ≡ k = grind (arith, nat_tests, same) in let is_x : x ≡ m = same_Some x m e in subst (λ (y : Message). y.kind ≡ k) is_x kind
  | false ↦ λ same e. found_kind k ms m e
] refl is

-- a type that is counted is found
pub counted_found : (k : ℕ) (ms : List Message) → 1 ≤ count_of k ms → (m : Message) × (find (λ (x : Message). x.kind == k) ms ≡ Some m)
counted_found k [] some = absurd (omega (arith, some))
counted_found k (x ∷ ms) some = elim (x.kind == k) as (λ b. 1 ≤ cond b 1 0 + count_of k ms → (m : Message) × (cond b (Some x) (find (λ (y : Message). y.kind == k) ms) ≡ Some m)) [
  | true ↦ λ here. (x, refl)
  | false ↦ λ later. counted_found k ms (omega (arith, later))
] some

-- a header of a group has a Symbol Table at some place
pub group_at : (image : List ℕ) (header : ℕ) (ms : List Message) (blocks : List Block) → HasMessages image header ms blocks → IsOfGroup ms → SomeMessage image header (λ kind. kind == symbol_table_kind)
group_at image header ms blocks has is =
    let one = is.table in
    let found = counted_found 17 ms (omega (arith, one)) in
    let placed : IsPlacedMessage image header found.0 = found_all (IsPlacedMessage image header) 17 ms found.0 (messages_placed image header ms blocks has) found.1 in
    let kind : kind_at image placed.0 ≡ symbol_table_kind = sym (placed.1).kind ∙ found_kind symbol_table_kind ms found.0 found.1 in
    (placed.0, ((placed.1).fits).0, rw kind refl)
