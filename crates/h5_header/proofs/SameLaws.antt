-- A reading that goes on and one that is whole have the same messages, as far as the first goes.
use Rattle.std.proofs.Common.{◌≡◌, ℕ, ◌+◌, ◌<◌, List, [], ◌∷◌, ◌++◌, length, refl, sym, ap₂, subst, arith}
use Rattle.std.specs.List.{AllByRecursion}
use Rattle.h5_bytes.specs.Bytes.{number_at, part}
use Rattle.h5_bytes.specs.declared.Block.{Block}
use Rattle.h5_model.specs.Format.Messages.{Message, IsMessage, Fills, FillBlocks, continuations}
use Rattle.h5_model.proofs.OneReading.{one_fill}
use Rattle.h5_header.specs.Progress.{FillsTo, FilledTo}

-- the parts of the whole reading begin with those that were read
pub parts_go_on : (image : List ℕ) (waiting : List Block) (parts : List (List Message)) (rest : List Block) (whole : List (List Message))
    → FilledTo image waiting parts rest → FillBlocks image waiting whole
    → (more : List (List Message)) × (whole ≡ parts ++ more) × FillBlocks image rest more
parts_go_on image waiting [] rest whole filled fills = (whole, refl, subst (λ (bs : List Block). FillBlocks image bs whole) filled fills)
parts_go_on image [] (p ∷ parts) rest whole filled fills = absurd filled
parts_go_on image (b ∷ waiting) (p ∷ parts) rest [] filled fills = absurd fills
parts_go_on image (b ∷ waiting) (p ∷ parts) rest (q ∷ whole) filled fills =
    let same : p ≡ q = one_fill b.at (part b.at b.len image) 0 p q filled.0 fills.0 in
    let on = parts_go_on image (waiting ++ continuations p) parts rest whole filled.1
    (subst (λ (ms : List Message). FillBlocks image (waiting ++ continuations ms) whole) (sym same) fills.1) in
    (on.0, ap₂ (λ (x : List Message) (xs : List (List Message)). x ∷ xs) (sym same) on.1, on.2)

-- the message behind those that were read
pub message_goes_on : (P : Message → Type 0) (block_at : ℕ) (bytes : List ℕ) (from : ℕ) (before : List Message) (to : ℕ) (whole : List Message)
    → FillsTo block_at bytes from before to → Fills block_at bytes from whole → AllByRecursion P whole → to < length bytes
    → (m : Message) × IsMessage block_at bytes to m × P m
message_goes_on P block_at bytes from [] to [] fills whole all low = absurd (omega (arith, fills, whole))
message_goes_on P block_at bytes from [] to (m ∷ ms) fills whole all low = (m, subst (λ (p : ℕ). IsMessage block_at bytes p m) fills whole.0, all.0)
message_goes_on P block_at bytes from (x ∷ before) to [] fills whole all low = absurd (omega (arith, whole, fills.0.whole))
message_goes_on P block_at bytes from (x ∷ before) to (m ∷ ms) fills whole all low =
    message_goes_on P block_at bytes (from + 8 + number_at bytes (from + 2) 2) before to ms fills.1 whole.1 all.1 low
