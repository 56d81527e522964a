-- Messages of types that are read, none of them a Symbol Table, are those that a dataset may have.
use Rattle.std.proofs.Common.{◌≡◌, ℕ, ◌+◌, List, [], ◌∷◌, true, false, cond, ◌==◌, IsTrue, refl, arith}
use Rattle.std.proofs.lemmas.Bool.Decides.{nat_tests}
use Rattle.std.specs.List.{AllByRecursion}
use Rattle.h5_model.specs.Format.MessageTypes.{symbol_table_kind}
use Rattle.h5_model.specs.Format.Messages.{Message, count_of}
use Rattle.h5_model.specs.Format.Reads.{InDataset}
use Rattle.h5_header.specs.Heads.{is_read}
use Rattle.h5_header.specs.Listed.{message_in, messages_in}
use Rattle.h5_header.specs.declared.message.Message.{Message as Placed}

known : (m : Message) → IsTrue (is_read m.kind) → (m.kind == symbol_table_kind) ≡ false → InDataset m
known m read other = grind (arith, nat_tests)

pub known_in : (image : List ℕ) (list : List Placed) → AllByRecursion (λ (m : Placed). IsTrue (is_read m.kind)) list → count_of symbol_table_kind (messages_in image list) ≡ 0
    → AllByRecursion InDataset (messages_in image list)
known_in image [] read none = tt
known_in image (m ∷ ms) read none = elim (m.kind == symbol_table_kind) as (λ b. (m.kind == symbol_table_kind) ≡ b → cond b 1 0 + count_of symbol_table_kind (messages_in image ms) ≡ 0 → AllByRecursion InDataset (messages_in image (m ∷ ms))) [
  | true ↦ λ e h. absurd (omega arith)
  | false ↦ λ e h. (known (message_in image m) read.0 e, known_in image ms read.1 (omega arith))
] refl none
