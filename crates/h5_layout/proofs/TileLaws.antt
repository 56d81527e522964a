-- Cells of one value, so many at a time.
use Rattle.std.proofs.Common.{◌≡◌, ℕ, ◌+◌, ◌-◌, ◌*◌, ◌/◌, ◌%◌, ◌≤◌, ℤ, List, ◌++◌, length, take, replicate, sym, ap, ◌∙◌, subst, append_assoc, arith, rules}
use Rattle.std.proofs.lemmas.List.{length-replicate, replicate-append-replicate, take_at, same_lists, places}
use Rattle.std.proofs.Math.Nat.{mul-le-mul_right}
use Rattle.std.specs.List.{copy_within}
use Rattle.h5_model.specs.Format.Fixed.{Fixed}
use Rattle.h5_model.specs.Format.Plain.{cells_bytes}
use Rattle.h5_model.proofs.PlainValues.{length-cells_bytes}
use Rattle.h5_layout.proofs.CornerLaws.{cells_add}

-- bytes at the front copied behind those that end at a place
copied_front : (bytes : List ℕ) (d m : ℕ) → m ≤ d → d + m ≤ length bytes → take (d + m) (copy_within bytes 0 m d) ≡ take d bytes ++ take m (take d bytes)
copied_front bytes d m few room = same_lists _ _ (search (rules, places)) (λ k d l. grind (arith, places))

copied_long : (bytes : List ℕ) (d m : ℕ) → m ≤ d → d + m ≤ length bytes → length (copy_within bytes 0 m d) ≡ length bytes
copied_long bytes d m few room = search (rules, places)

module _ (t : Fixed) (v : ℤ) where
  abbrev pub bytes_of_copies : ℕ → List ℕ
  bytes_of_copies n = cells_bytes t (replicate n v)

  copies_add : (n k : ℕ) → bytes_of_copies (n + k) ≡ bytes_of_copies n ++ bytes_of_copies k
  copies_add n k = ap (cells_bytes t) (sym (replicate-append-replicate n k v)) ∙ cells_add t (replicate n v) (replicate k v)

  front : (n k : ℕ) → take (n * t.size) (bytes_of_copies (n + k)) ≡ bytes_of_copies n
  front n k =
      let long : length (bytes_of_copies n) ≡ n * t.size = length-cells_bytes t (replicate n v) ∙ ap (λ m. m * t.size) (length-replicate n v) in
      ap (take (n * t.size)) (copies_add n k) ∙ take_at (bytes_of_copies n) (bytes_of_copies k) (n * t.size) long

  -- so many bytes begin with these cells
  pub record AreCopies (bytes : List ℕ) (count n : ℕ) : Type 0 where
    pub some : 1 ≤ n
    pub few : n ≤ count
    pub long : length bytes ≡ count * t.size
    pub filled : take (n * t.size) bytes ≡ bytes_of_copies n

  -- some of these cells copied behind them
  pub copies_copied : (bytes : List ℕ) (count n k size : ℕ) → AreCopies bytes count n → size ≡ t.size → k ≤ n → n + k ≤ count
      → AreCopies (copy_within bytes 0 (k * size) (n * size)) count (n + k)
  copies_copied bytes count n k size are same few room =
      let low : k * t.size ≤ n * t.size = mul-le-mul_right t.size few in
      let high : (n + k) * t.size ≤ count * t.size = mul-le-mul_right t.size room in
      let split : (n + k) * t.size ≡ n * t.size + k * t.size = omega arith in
      let fits : n * t.size + k * t.size ≤ length bytes = omega (arith, are.long) in
      let under : k + (n - k) ≡ n = omega arith in
      let rest : take (k * t.size) (take (n * t.size) bytes) ≡ bytes_of_copies k
      = ap (take (k * t.size)) (are.filled ∙ ap bytes_of_copies (sym under)) ∙ front k (n - k) in
      subst (λ s. AreCopies (copy_within bytes 0 (k * s) (n * s)) count (n + k)) (sym same) (record {
        some = omega (arith, are.some);
        few = room;
        long = copied_long bytes (n * t.size) (k * t.size) low fits ∙ are.long;
        filled = ap (λ m. take m (copy_within bytes 0 (k * t.size) (n * t.size))) split ∙ copied_front bytes (n * t.size) (k * t.size) low fits
            ∙ (λ i. are.filled i ++ rest i) ∙ sym (copies_add n k);
      })

  module _ (tile : List ℕ) (is : tile ≡ bytes_of_copies 64) (old : List ℕ) where
    -- one tile more
    pub tile_more : (n : ℕ) (out new : List ℕ) → out ≡ old ++ bytes_of_copies (n * 64) → new ≡ out ++ tile → new ≡ old ++ bytes_of_copies ((n + 1) * 64)
    tile_more n out new so pushed =
        let more : (n + 1) * 64 ≡ n * 64 + 64 = omega arith in
        pushed ∙ ap (λ (xs : List ℕ). xs ++ tile) so ∙ append_assoc old (bytes_of_copies (n * 64)) tile
        ∙ ap (λ (xs : List ℕ). old ++ xs) (ap (λ (xs : List ℕ). bytes_of_copies (n * 64) ++ xs) is ∙ sym (copies_add (n * 64) 64) ∙ sym (ap bytes_of_copies more))

    -- all tiles, and the cells that are left
    pub tiles_end : (count n : ℕ) (out : List ℕ) → n ≡ count / 64 → out ≡ old ++ bytes_of_copies (n * 64)
        → out ++ take (count % 64 * t.size) tile ≡ old ++ bytes_of_copies count
    tiles_end count n out all so =
        let left : ℕ = count % 64 in
        let under : left + (64 - left) ≡ 64 = omega arith in
        let whole : n * 64 + left ≡ count = omega (arith, all) in
        let rest : take (left * t.size) tile ≡ bytes_of_copies left
        = ap (take (left * t.size)) (is ∙ ap bytes_of_copies (sym under)) ∙ front left (64 - left) in
        ap (λ (xs : List ℕ). xs ++ take (left * t.size) tile) so ∙ append_assoc old (bytes_of_copies (n * 64)) (take (left * t.size) tile)
        ∙ ap (λ (xs : List ℕ). old ++ xs) (ap (λ (xs : List ℕ). bytes_of_copies (n * 64) ++ xs) rest ∙ sym (copies_add (n * 64) left) ∙ ap bytes_of_copies whole)
