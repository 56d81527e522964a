-- The indexes of cells in one row of an array: they are alike but for the last number.
use Rattle.std.proofs.Common.{◌≡◌, ℕ, suc, ◌+◌, ◌-◌, ◌*◌, ◌/◌, ◌%◌, ◌<◌, List, [], ◌∷◌, refl, sym, ap, ◌∙◌, arith, length, get_or, replicate, set}
use Rattle.std.proofs.Math.Nat.{mod-eq_of_lt, zero-div}
use Rattle.std.proofs.lemmas.Nat.{div-add-mod'}
use Rattle.h5_model.specs.Tree.Places.{cells, index_of}
use Rattle.h5_model.proofs.PlaceLaws.{positive}
use Rattle.h5_shape.proofs.GridBoxes.{length-index_of}
use Rattle.h5_layout.proofs.BesideLaws.{by_one, last-is, last_of, last_rows, row_ends, row_on, same_column, some_last}

-- the first cell of all
pub index_zero : (sizes : List ℕ) → index_of sizes 0 ≡ replicate (length sizes) 0
index_zero [] = refl
index_zero (d ∷ ds) =
    let none : 0 % cells ds ≡ 0 = omega (arith, div-add-mod' 0 (cells ds)) in
    rw (zero-div (cells ds), none) (ap (λ (is : List ℕ). 0 ∷ is) (index_zero ds))

-- ---- the last number

last_number : (sizes : List ℕ) (p : ℕ) → 0 < length sizes → p < cells sizes → last_of (index_of sizes p) ≡ p % last_of sizes
last_number [] p some below = absurd (omega arith)
last_number (d ∷ []) p some below =
    let low : p < d = omega arith in
    by_one p ∙ sym (mod-eq_of_lt low)
last_number (d ∷ e ∷ ds) p some below =
    let m : ℕ = cells (e ∷ ds) in
    let l : ℕ = last_of (e ∷ ds) in
    let rows : (q : ℕ) × (m ≡ q * l) = last_rows e ds in
    let more : 0 < m = positive p d m below in
    let low : p % m < m = omega arith in
    let some_l : 0 < l = some_last (e ∷ ds) (p % m) (omega arith) low in
    let column : p % m % l ≡ p % l = rw rows.1 (same_column p rows.0 l (omega (arith, rows.1)) some_l) in
    last_number (e ∷ ds) (p % m) (omega arith) low ∙ column

pub index_last : (sizes : List ℕ) (p : ℕ) → 0 < length sizes → p < cells sizes → get_or (index_of sizes p) (length sizes - 1) 0 ≡ p % last_of sizes
index_last sizes p some below =
    let long = length-index_of sizes p in
    ap (λ (n : ℕ). get_or (index_of sizes p) (n - 1) 0) (sym long) ∙ last-is (index_of sizes p) (omega (arith, long, some)) ∙ last_number sizes p some below

-- ---- some cells on, in the same row

pub row_inside : (sizes : List ℕ) (p j : ℕ) → 0 < length sizes → p < cells sizes → p % last_of sizes + j < last_of sizes → p + j < cells sizes
row_inside [] p j some below row = absurd (omega arith)
row_inside (d ∷ ds) p j some below row =
    let rows : (q : ℕ) × (cells (d ∷ ds) ≡ q * last_of (d ∷ ds)) = last_rows d ds in
    omega (arith, rows.1, row_ends p rows.0 (last_of (d ∷ ds)) j (omega (arith, rows.1, below)) row)

pub index_on : (sizes : List ℕ) (p j : ℕ) → 0 < length sizes → p < cells sizes → p % last_of sizes + j < last_of sizes
    → index_of sizes (p + j) ≡ set (index_of sizes p) (length sizes - 1) (get_or (index_of sizes p) (length sizes - 1) 0 + j)
index_on [] p j some below row = absurd (omega arith)
index_on (d ∷ []) p j some below row =
    let here : (p + j) / 1 ≡ p / 1 + j = omega (arith, by_one (p + j), by_one p) in
    let end : length (d ∷ []) - 1 ≡ 0 = omega arith in
    ap (λ (n : ℕ). n ∷ []) here ∙ ap (λ (k : ℕ). set (index_of (d ∷ []) p) k (get_or (index_of (d ∷ []) p) k 0 + j)) (sym end)
index_on (d ∷ e ∷ ds) p j some below row =
    let m : ℕ = cells (e ∷ ds) in
    let l : ℕ = last_of (e ∷ ds) in
    let rows : (q : ℕ) × (m ≡ q * l) = last_rows e ds in
    let more : 0 < m = positive p d m below in
    let some_l : 0 < l = omega (arith, row) in
    let column : p % m % l ≡ p % l = rw rows.1 (same_column p rows.0 l (omega (arith, rows.1)) some_l) in
    let low : p % m < m = omega arith in
    let row' : p % m % l + j < l = omega (arith, column, row) in
    let ends : p % m + j < m = row_inside (e ∷ ds) (p % m) j (omega arith) low row' in
    let s : ((p + j) / m ≡ p / m) × ((p + j) % m ≡ p % m + j) = row_on p j m ends in
    let rest = index_on (e ∷ ds) (p % m) j (omega arith) low row' in
    let end : length (d ∷ e ∷ ds) - 1 ≡ suc (length (e ∷ ds) - 1) = omega arith in
    let moved : index_of (d ∷ e ∷ ds) (p + j) ≡ p / m ∷ index_of (e ∷ ds) (p % m + j)
    = ap (λ (n : ℕ). n ∷ index_of (e ∷ ds) ((p + j) % m)) s.0 ∙ ap (λ (n : ℕ). p / m ∷ index_of (e ∷ ds) n) s.1 in
    moved
    ∙ ap (λ (is : List ℕ). p / m ∷ is) rest
    ∙ ap (λ (k : ℕ). set (index_of (d ∷ e ∷ ds) p) k (get_or (index_of (d ∷ e ∷ ds) p) k 0 + j)) (sym end)
