-- A block that was taken for an object, and the object's bytes that were written there one part after another.
use Rattle.std.proofs.Common.{◌≡◌, ℕ, ℤ, ◌+◌, ◌*◌, ◌≤◌, List, [], ◌∷◌, ◌++◌, length, replicate, sym, ap, ◌∙◌, arith, length-append}
use Rattle.std.proofs.lemmas.List.{length-replicate}
use Rattle.h5_bytes.specs.Blocks.{block, cover, holds}
use Rattle.h5_bytes.specs.Bytes.{part, with_part}
use Rattle.h5_bytes.proofs.PartLaws.{length-with_part, part-with_part_same}
use Rattle.h5_model.specs.Format.Fixed.{Fixed}
use Rattle.h5_model.specs.Format.Plain.{cells_bytes}
use Rattle.h5_model.proofs.PlainValues.{length-cells_bytes}
use Rattle.h5_space.specs.Lending.{with_bytes_at}
use Rattle.h5_space.specs.Moves.{Moves, Spends}
use Rattle.h5_space.specs.Space.{Space, growth}
use Rattle.h5_space.proofs.MovesLaws.{moves_take, moves_then, moves_write, spends_take}
use Rattle.h5_layout.proofs.WriteLaws.{with_part-append}

-- what cells of one value take
pub cells_long : (fixed : Fixed) (fill : ℤ) (count : ℕ) → length (cells_bytes fixed (replicate count fill)) ≡ count * fixed.size
cells_long fixed fill count = length-cells_bytes fixed (replicate count fill) ∙ ap (λ (n : ℕ). n * fixed.size) (length-replicate count fill)

-- a first part was written, and then a second part behind it
module _ (taken mid : Space) (at behind len : ℕ) (head body : List ℕ) (first : mid ≡ with_bytes_at taken at head) (next : behind ≡ at + length head)
    (size : len ≡ length (head ++ body)) (inside : at + len ≤ length taken.bytes) where
  pub behind_fits : behind + length body ≤ length mid.bytes
  behind_fits =
      let both = length-append head body in
      let long : length mid.bytes ≡ length taken.bytes
      = ap (λ (s : Space). length s.bytes) first ∙ length-with_part at head taken.bytes (omega (arith, size, inside, both)) in
      omega (arith, next, size, inside, both, long)

  pub in_two : (new : Space) (part : List ℕ) → part ≡ body → new ≡ with_bytes_at mid behind part → new ≡ with_bytes_at (with_bytes_at taken at head) (at + length head) body
  in_two new part same second =
      second ∙ ap (λ (bs : List ℕ). with_bytes_at mid behind bs) same ∙ ap (λ (s : Space). with_bytes_at s behind body) first
      ∙ ap (λ (n : ℕ). with_bytes_at (with_bytes_at taken at head) n body) next

module _ (old taken new : Space) (at len : ℕ) (bytes : taken.bytes ≡ old.bytes ++ replicate (growth len old.free) 0) (inside : at + len ≤ length taken.bytes)
    (held : (p : ℕ) → cover p taken.free + holds p at len ≡ cover p old.free + holds p (length old.bytes) (growth len old.free)) (head body : List ℕ)
    (size : len ≡ length (head ++ body)) (written : new ≡ with_bytes_at (with_bytes_at taken at head) (at + length head) body) where
  fits : at + (length head + length body) ≤ length taken.bytes
  fits = omega (arith, size, inside, length-append head body)

  whole : at + length (head ++ body) ≤ length taken.bytes
  whole = omega (arith, size, inside)

  bytes_are : new.bytes ≡ with_part at (head ++ body) taken.bytes
  bytes_are = ap (λ (s : Space). s.bytes) written ∙ sym (with_part-append at head body taken.bytes fits)

  pub object_long : length new.bytes ≡ length taken.bytes
  object_long = ap length bytes_are ∙ length-with_part at (head ++ body) taken.bytes whole

  pub object_took : Moves old new [] (block at len ∷ [])
  object_took =
      moves_then old taken new [] (block at len ∷ []) (block at len ∷ []) (moves_take old taken at len (growth len old.free) bytes held)
      (moves_write taken new at len (head ++ body) (sym size) inside bytes_are (ap (λ (s : Space). s.free) written))

  pub object_there : part at len new.bytes ≡ head ++ body
  object_there = ap (part at len) bytes_are ∙ part-with_part_same at len (head ++ body) taken.bytes size whole

  pub object_inside : at + len ≤ length new.bytes
  object_inside = let long = object_long in omega (arith, long, inside)

  pub object_spends : taken.room_bytes + len ≡ old.room_bytes → taken.room_blocks + 1 ≡ old.room_blocks → Spends old new len 1
  object_spends room calls =
      let spent = spends_take old taken len bytes room calls in
      let long = object_long in
      let left = ap (λ (s : Space). s.room_bytes) written in
      let blocks = ap (λ (s : Space). s.room_blocks) written in
      record {
        grown = omega (arith, long, spent.grown);
        bytes_left = omega (arith, left, spent.bytes_left);
        blocks_left = omega (arith, blocks, spent.blocks_left);
      }
