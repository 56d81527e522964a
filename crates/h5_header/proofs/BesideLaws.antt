-- A write in one block leaves the blocks beside it.
use Rattle.std.proofs.Common.{◌≡◌, ℕ, ◌+◌, ◌≤◌, inl, inr, List, [], ◌∷◌, length, refl, ap, ◌∙◌, arith}
use Rattle.std.proofs.lemmas.Bool.{cases_lt}
use Rattle.h5_bytes.specs.Bytes.{with_part}
use Rattle.h5_bytes.specs.Blocks.{block, holds, cover, Separate, Inside, Keeps}
use Rattle.h5_bytes.specs.declared.Block.{Block}
use Rattle.h5_bytes.proofs.PartLaws.{length-with_part}
use Rattle.h5_bytes.proofs.BlockLaws.{holds_in, holds_past, holds-inner, cover_past}
use Rattle.h5_space.specs.Space.{Space}
use Rattle.h5_space.specs.Moves.{Moves, Spends}
use Rattle.h5_space.proofs.MovesLaws.{moves_write, moves_kept}

pub kept_beside : (old w : List ℕ) (at : ℕ) (b : Block) (more : List Block) → b.at ≤ at → at + length w ≤ b.at + b.len → b.at + b.len ≤ length old
    → Separate (b ∷ more) → Inside (length old) more → Keeps old (with_part at w old) more
kept_beside old w at b more low high room separate inside =
    let s : Space = record { bytes = old; free = []; room_bytes = 0; room_blocks = 0 } in
    let t : Space = record { bytes = with_part at w old; free = []; room_bytes = 0; room_blocks = 0 } in
    moves_kept s t (block at (length w) ∷ []) (block at (length w) ∷ []) more
    (moves_write s t at (length w) w refl (omega (arith, high, room)) refl refl)
    (λ p. elim (cases_lt p (length old)) [
      | inl within ↦ omega (arith, separate p, holds-inner p at (length w) b.at b.len low high, holds_in p 0 (length old) (omega arith) (omega (arith, within)))
      | inr past ↦ omega (arith, holds_past p at (length w) (omega (arith, high, room, past)), cover_past p (length old) more inside past)
    ])
    inside

-- a write within the first of some blocks moves nothing
pub moves_within : (old new : Space) (w : List ℕ) (at : ℕ) (b : Block) (more : List Block) → b.at ≤ at → at + length w ≤ b.at + b.len → b.at + b.len ≤ length old.bytes
    → new.bytes ≡ with_part at w old.bytes → new.free ≡ old.free → Moves old new (b ∷ more) (b ∷ more)
moves_within old new w at b more low high room bytes free =
    let m = moves_write old new at (length w) w refl (omega (arith, high, room)) bytes free in
    record {
      grown = m.grown;
      kept = λ p below used unused. m.kept p below (omega (arith, used, holds-inner p at (length w) b.at b.len low high)) unused;
      moved = λ p. omega (arith, m.moved p);
    }

-- a write in bytes that some blocks hold moves nothing
pub moves_covered : (old new : Space) (w : List ℕ) (at : ℕ) (blocks : List Block) → ((p : ℕ) → holds p at (length w) ≤ cover p blocks) → at + length w ≤ length old.bytes
    → new.bytes ≡ with_part at w old.bytes → new.free ≡ old.free → Moves old new blocks blocks
moves_covered old new w at blocks covered room bytes free =
    let m = moves_write old new at (length w) w refl room bytes free in
    record {
      grown = m.grown;
      kept = λ p below used unused. m.kept p below (omega (arith, used, covered p)) unused;
      moved = λ p. omega (arith, m.moved p);
    }

-- a write spends nothing
pub spends_write : (old new : Space) (w : List ℕ) (at : ℕ) → at + length w ≤ length old.bytes → new ≡ record old { bytes = with_part at w old.bytes } → Spends old new 0 0
spends_write old new w at room is =
    let long : length new.bytes ≡ length old.bytes = ap (λ (s : Space). length s.bytes) is ∙ length-with_part at w old.bytes room in
    record {
      grown = omega (arith, long);
      bytes_left = omega (arith, ap (λ (s : Space). s.room_bytes) is);
      blocks_left = omega (arith, ap (λ (s : Space). s.room_blocks) is);
    }
