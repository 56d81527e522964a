-- Cells behind cells, in rows.
use Rattle.std.proofs.Common.{◌≡◌, ℕ, suc, ◌+◌, ◌%◌, ◌<◌, ℤ, List, [], ◌∷◌, ◌++◌, length, sym, ap, ◌∙◌, append_assoc, append-nil, arith}
use Rattle.std.proofs.Math.Nat.{mod-eq_of_lt, mod-lt, mod-add-mod}
use Rattle.h5_text.specs.Rows.{cell_text, cells_from}

pub next_after : (width column n : ℕ) → ((column + 1) % width + n) % width ≡ (column + suc n) % width
next_after width column n =
    let sum : column + 1 + n ≡ column + suc n = omega arith in
    mod-add-mod (column + 1) width n ∙ ap (λ k. k % width) sum

-- no cell yet
pub column_start : (width column : ℕ) → column < width → column ≡ (column + 0) % width
column_start width column inside = let sum : column + 0 ≡ column = omega arith in sym (ap (λ k. k % width) sum ∙ mod-eq_of_lt inside)

-- cells behind cells
pub cells_append : (width column : ℕ) (xs ys : List ℤ) → column < width → cells_from width column (xs ++ ys) ≡ cells_from width column xs ++ cells_from width ((column + length xs) % width) ys
cells_append width column [] ys inside = ap (λ k. cells_from width k ys) (column_start width column inside)
cells_append width column (x ∷ xs) ys inside =
    let next = (column + 1) % width in
    ap (λ t. cell_text width column x ++ t) (cells_append width next xs ys (mod-lt (column + 1) (omega arith)))
    ∙ sym (append_assoc (cell_text width column x) (cells_from width next xs) (cells_from width ((next + length xs) % width) ys))
    ∙ ap (λ k. (cell_text width column x ++ cells_from width next xs) ++ cells_from width k ys) (next_after width column (length xs))

-- one more cell stands in the column behind the others
pub cells_push : (width column : ℕ) (vs : List ℤ) (v : ℤ) → column < width → cells_from width column (vs ++ v ∷ []) ≡ cells_from width column vs ++ cell_text width ((column + length vs) % width) v
cells_push width column vs v inside =
    cells_append width column vs (v ∷ []) inside ∙ ap (λ t. cells_from width column vs ++ t) (append-nil (cell_text width ((column + length vs) % width) v))

-- a cell is appended behind k others
pub row_step : (width column wide here k : ℕ) (vs more : List ℤ) (v : ℤ) (old out new : List ℕ) → column < width → wide ≡ width → here ≡ (column + k) % width → length vs ≡ k → more ≡ vs ++ v ∷ []
    → out ≡ old ++ cells_from width column vs → new ≡ out ++ cell_text wide here v → new ≡ old ++ cells_from width column more
row_step width column wide here k vs more v old out new inside same at count is so_far written =
    written ∙ ap (λ w. out ++ cell_text w here v) same ∙ ap (λ n. out ++ cell_text width n v) (at ∙ ap (λ n. (column + n) % width) (sym count))
    ∙ ap (λ t. t ++ cell_text width ((column + length vs) % width) v) so_far
    ∙ append_assoc old (cells_from width column vs) (cell_text width ((column + length vs) % width) v)
    ∙ ap (λ t. old ++ t) (sym (ap (cells_from width column) is ∙ cells_push width column vs v inside))

pub column_step : (width column wide here next k : ℕ) → wide ≡ width → here ≡ (column + k) % width → next ≡ (here + 1) % wide → next ≡ (column + (k + 1)) % width
column_step width column wide here next k same at is =
    let sum : column + k + 1 ≡ column + (k + 1) = omega arith in
    is ∙ ap (λ w. (here + 1) % w) same ∙ ap (λ n. (n + 1) % width) at ∙ mod-add-mod (column + k) width 1 ∙ ap (λ n. n % width) sum
