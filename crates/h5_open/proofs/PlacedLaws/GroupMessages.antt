-- Messages of types that are read, none of them of a dataset, are those that a group may have.
use Rattle.std.proofs.Common.{◌≡◌, ℕ, ◌+◌, List, [], ◌∷◌, refl, arith, true, false, cond, IsTrue}
use Rattle.std.specs.Prelude.{◌==◌}
use Rattle.std.specs.List.{AllByRecursion}
use Rattle.std.proofs.lemmas.Bool.Decides.{nat_tests}
use Rattle.h5_model.specs.Format.MessageTypes.{dataspace_kind, datatype_kind, old_fill_value_kind, fill_value_kind, data_layout_kind}
use Rattle.h5_model.specs.Format.Messages.{Message, count_of}
use Rattle.h5_model.specs.Format.Reads.{InGroup}
use Rattle.h5_header.specs.Heads.{is_read}
use Rattle.h5_header.specs.Listed.{message_in, messages_in}
use Rattle.h5_header.specs.declared.message.Message.{Message as Stood}

group_message : (m : Message) → IsTrue (is_read m.kind) → (m.kind == dataspace_kind) ≡ false → (m.kind == datatype_kind) ≡ false → (m.kind == old_fill_value_kind) ≡ false → (m.kind == fill_value_kind) ≡ false → (m.kind == data_layout_kind) ≡ false → InGroup m
group_message m read a b c d e = grind (arith, nat_tests)

-- no message of a type that is not counted
none_here : (k : ℕ) (m : Message) (ms : List Message) → count_of k (m ∷ ms) ≡ 0 → (m.kind == k) ≡ false
none_here k m ms none = elim (m.kind == k) as (λ b. cond b 1 0 + count_of k ms ≡ 0 → b ≡ false) [
  | true ↦ λ h. absurd (omega arith)
  | false ↦ λ h. refl
] none

none_later : (k : ℕ) (m : Message) (ms : List Message) → count_of k (m ∷ ms) ≡ 0 → count_of k ms ≡ 0
none_later k m ms none = omega (arith, none)

pub group_known : (image : List ℕ) (list : List Stood) → AllByRecursion (λ (m : Stood). IsTrue (is_read m.kind)) list
    → AllByRecursion (λ (k : ℕ). count_of k (messages_in image list) ≡ 0) (dataspace_kind ∷ datatype_kind ∷ old_fill_value_kind ∷ fill_value_kind ∷ data_layout_kind ∷ []) → AllByRecursion InGroup (messages_in image list)
group_known image [] read none = tt
group_known image (m ∷ ms) read (a, (b, (c, (d, (e, end))))) = (
  group_message (message_in image m) read.0 (none_here dataspace_kind (message_in image m) (messages_in image ms) a) (none_here datatype_kind (message_in image m) (messages_in image ms) b)
      (none_here old_fill_value_kind (message_in image m) (messages_in image ms) c) (none_here fill_value_kind (message_in image m) (messages_in image ms) d) (none_here data_layout_kind (message_in image m) (messages_in image ms) e),
  group_known image ms read.1 (
    none_later dataspace_kind (message_in image m) (messages_in image ms) a,
    (
      none_later datatype_kind (message_in image m) (messages_in image ms) b,
      (none_later old_fill_value_kind (message_in image m) (messages_in image ms) c, (none_later fill_value_kind (message_in image m) (messages_in image ms) d, (none_later data_layout_kind (message_in image m) (messages_in image ms) e, end))),
    ),
  ),
)
