-- The rows of a tree from the root down to some level, and one row more below them.
use Rattle.std.proofs.Common.{◌≡◌, ℕ, zero, suc, ◌+◌, List, ◌++◌, refl, sym, ap, ◌∙◌, subst, arith, append_assoc}
use Rattle.h5_bytes.specs.Bytes.{undefined_address}
use Rattle.h5_model.specs.Format.Rows.{Reading, IsRow, AreRows, next_row, row_below, leaves, nodes}

-- the rows from this row down to the level `low`, so many levels below it
abbrev pub AreDownTo : Reading → ℕ → ℕ → List ℕ → Type 0
AreDownTo V low zero row = IsRow V low undefined_address row
AreDownTo V low (suc depth) row = IsRow V (low + suc depth) undefined_address row × AreDownTo V low depth (next_row V row)

module _ (V : Reading) where
  -- down to level 0 they are all rows
  pub down_to_zero : (depth : ℕ) (row : List ℕ) → AreDownTo V 0 depth row → AreRows V depth row
  down_to_zero zero row down = down
  down_to_zero (suc depth) row down =
      let level : 0 + suc depth ≡ suc depth = omega arith in
      (subst (λ n. IsRow V n undefined_address row) level down.0, down_to_zero depth (next_row V row) down.1)

  -- one row more
  pub down_more : (low depth : ℕ) (row : List ℕ) → AreDownTo V (low + 1) depth row → IsRow V low undefined_address (leaves V depth row)
      → AreDownTo V low (suc depth) row
  down_more low zero row down below =
      let level : low + 1 ≡ low + suc zero = omega arith in
      (subst (λ n. IsRow V n undefined_address row) level down, below)
  down_more low (suc depth) row down below =
      let level : low + 1 + suc depth ≡ low + suc (suc depth) = omega arith in
      (subst (λ n. IsRow V n undefined_address row) level down.0, down_more low depth (next_row V row) down.1 below)

  pub row_below-more : (depth : ℕ) (row : List ℕ) → row_below V (suc depth) row ≡ leaves V depth row
  row_below-more zero row = refl
  row_below-more (suc depth) row = row_below-more depth (next_row V row)

  pub leaves-more : (depth : ℕ) (row : List ℕ) → leaves V (suc depth) row ≡ next_row V (leaves V depth row)
  leaves-more depth row = ap (next_row V) (row_below-more depth row)

  pub nodes-more : (depth : ℕ) (row : List ℕ) → nodes V (suc depth) row ≡ nodes V depth row ++ leaves V depth row
  nodes-more zero row = refl
  nodes-more (suc depth) row =
      ap (λ ns. row ++ ns) (nodes-more depth (next_row V row)) ∙ sym (append_assoc row (nodes V depth (next_row V row)) (leaves V depth (next_row V row)))
