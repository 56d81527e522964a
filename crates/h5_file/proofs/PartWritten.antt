-- What stands at a place after cells were written: the value that was written there, or what stood there.
use Rattle.std.proofs.Common.{◌≡◌, ℕ, ◌+◌, ◌*◌, ◌<◌, ◌≤◌, ◌⊎◌, inl, inr, ℤ, List, [], ◌∷◌, length, refl, sym, ap, ◌∙◌, arith}
use Rattle.std.proofs.Math.Nat.{mul-le-mul_right}
use Rattle.std.specs.List.{AllByRecursion}
use Rattle.h5_bytes.specs.Bytes.{part, with_part}
use Rattle.h5_bytes.proofs.PartLaws.{length-with_part, part-with_part_other, part-with_part_same}
use Rattle.h5_model.specs.Format.Fixed.{Fixed, bytes_of}
use Rattle.h5_model.proofs.FixedLaws.{length-bytes_of}
use Rattle.h5_file.specs.Patched.{with_writes}

-- there is room for the cell
abbrev pub HasRoom : Fixed → List ℕ → ℕ × ℤ → Type 0
HasRoom t bytes w = w.0 * t.size + t.size ≤ length bytes

module _ (t : Fixed) (p : ℕ) where
  one_room : (w : ℕ × ℤ) (bytes : List ℕ) → HasRoom t bytes w → w.0 * t.size + length (bytes_of t w.1) ≤ length bytes
  one_room w bytes room = omega (arith, room, length-bytes_of t w.1)

  other_cell : (w : ℕ × ℤ) (bytes : List ℕ) → HasRoom t bytes w → (w.0 < p) ⊎ (p < w.0) → part (p * t.size) t.size (with_part (w.0 * t.size) (bytes_of t w.1) bytes) ≡ part (p * t.size) t.size bytes
  other_cell w bytes room (inl less) =
      let step : (w.0 + 1) * t.size ≤ p * t.size = mul-le-mul_right t.size (omega (arith, less)) in
      part-with_part_other (w.0 * t.size) (bytes_of t w.1) bytes (p * t.size) t.size (one_room w bytes room) (inr (omega (arith, step, length-bytes_of t w.1)))
  other_cell w bytes room (inr more) =
      let step : (p + 1) * t.size ≤ w.0 * t.size = mul-le-mul_right t.size (omega (arith, more)) in
      part-with_part_other (w.0 * t.size) (bytes_of t w.1) bytes (p * t.size) t.size (one_room w bytes room) (inl (omega (arith, step)))

  -- where nothing was written
  pub part_else : (ws : List (ℕ × ℤ)) (bytes : List ℕ) (long : ℕ) → long ≡ length bytes → AllByRecursion (λ (w : ℕ × ℤ). ((w.0 < p) ⊎ (p < w.0)) × (w.0 * t.size + t.size ≤ long)) ws
      → part (p * t.size) t.size (with_writes t ws bytes) ≡ part (p * t.size) t.size bytes
  part_else [] bytes long is all = refl
  part_else (w ∷ ws) bytes long is all =
      let room : HasRoom t bytes w = omega (arith, all.0.1, is) in
      let next = with_part (w.0 * t.size) (bytes_of t w.1) bytes in
      let same : long ≡ length next = is ∙ sym (length-with_part (w.0 * t.size) (bytes_of t w.1) bytes (one_room w bytes room)) in
      part_else ws next long same all.1 ∙ other_cell w bytes room all.0.0

  -- where one value was written last
  pub part_here : (w : ℕ × ℤ) (ws : List (ℕ × ℤ)) (bytes : List ℕ) → w.0 ≡ p → HasRoom t bytes w
      → AllByRecursion (λ (w : ℕ × ℤ). ((w.0 < p) ⊎ (p < w.0)) × (w.0 * t.size + t.size ≤ length bytes)) ws
      → part (p * t.size) t.size (with_writes t (w ∷ ws) bytes) ≡ bytes_of t w.1
  part_here w ws bytes at room all =
      let next = with_part (w.0 * t.size) (bytes_of t w.1) bytes in
      let same : length bytes ≡ length next = sym (length-with_part (w.0 * t.size) (bytes_of t w.1) bytes (one_room w bytes room)) in
      part_else ws next (length bytes) same all ∙ ap (λ n. part (n * t.size) t.size next) (sym at)
      ∙ part-with_part_same (w.0 * t.size) t.size (bytes_of t w.1) bytes (sym (length-bytes_of t w.1)) (one_room w bytes room)
