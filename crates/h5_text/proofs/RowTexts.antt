-- Cells written one behind the other are the rows of the array.
use Rattle.std.proofs.Common.{◌≡◌, ℕ, zero, suc, ◌+◌, ◌*◌, ◌%◌, ◌<◌, ◌≤◌, false, cond, eqb, eq-eqb, ℤ, List, [], ◌∷◌, ◌++◌, length, take, drop, codes, refl, sym, ap, ◌∙◌, append_assoc, append-nil, take-append-drop, length-drop, arith}
use Rattle.std.proofs.Math.Nat.{mod-eq_of_lt, mod_self, suc-mul}
use Rattle.std.proofs.lemmas.Bool.Decides.{nat_tests}
use Rattle.std.proofs.lemmas.List.{length-take-le}
use Rattle.std.specs.Fmt.{signed_decimal}
use Rattle.std.specs.List.{flat_map, join_by}
use Rattle.h5_model.specs.Scripts.Text.{rows_text}
use Rattle.h5_text.specs.Rows.{cell_text, cells_from}
use Rattle.h5_text.proofs.RowLaws.{cells_append}

-- a cell as its column has it
cell_is : (width column : ℕ) (v : ℤ) (b e : List ℕ) → cond (eqb column 0) [] (codes " ") ≡ b → cond (eqb (column + 1) width) (codes "\n") [] ≡ e → cell_text width column v ≡ b ++ (signed_decimal v ++ e)
cell_is width column v b e before behind = ap (λ s. s ++ (signed_decimal v ++ cond (eqb (column + 1) width) (codes "\n") [])) before ∙ ap (λ s. b ++ (signed_decimal v ++ s)) behind

not_first : (column : ℕ) → 0 < column → cond (eqb column 0) [] (codes " ") ≡ codes " "
not_first column h = let other : eqb column 0 ≡ false = grind (arith, nat_tests) in ap (λ b. cond b [] (codes " ")) other

not_last : (width column : ℕ) → column + 1 < width → cond (eqb (column + 1) width) (codes "\n") [] ≡ []
not_last width column h = let other : eqb (column + 1) width ≡ false = grind (arith, nat_tests) in ap (λ b. cond b (codes "\n") []) other

is_last : (width column : ℕ) → column + 1 ≡ width → cond (eqb (column + 1) width) (codes "\n") [] ≡ codes "\n"
is_last width column h = ap (λ b. cond b (codes "\n") []) (eq-eqb (column + 1) width h)

-- the cells of a row behind its first
tail_row : (width column : ℕ) (xs : List ℤ) → 0 < column → column < width → column + length xs ≡ width → cells_from width column xs ≡ flat_map (λ v. codes " " ++ signed_decimal v) xs ++ codes "\n"
tail_row width column [] some inside sum = absurd (omega (arith, sum))
tail_row width column (x ∷ []) some inside sum =
    ap (λ t. t ++ []) (cell_is width column x (codes " ") (codes "\n") (not_first column some) (is_last width column (omega (arith, sum))))
    ∙ append-nil (codes " " ++ (signed_decimal x ++ codes "\n")) ∙ sym (ap (λ t. t ++ codes "\n") (append-nil (codes " " ++ signed_decimal x)))
tail_row width column (x ∷ y ∷ ys) some inside sum =
    let room : column + 1 < width = omega (arith, sum) in
    let next : (column + 1) % width ≡ column + 1 = mod-eq_of_lt room in
    let rest = flat_map (λ v. codes " " ++ signed_decimal v) (y ∷ ys) in
    ap (λ t. t ++ cells_from width ((column + 1) % width) (y ∷ ys)) (cell_is width column x (codes " ") [] (not_first column some) (not_last width column room) ∙ ap (λ t. codes " " ++ t) (append-nil (signed_decimal x)))
    ∙ ap (λ k. (codes " " ++ signed_decimal x) ++ cells_from width k (y ∷ ys)) next
    ∙ ap (λ t. (codes " " ++ signed_decimal x) ++ t) (tail_row width (column + 1) (y ∷ ys) (omega arith) room (omega (arith, sum)))
    ∙ sym (append_assoc (codes " " ++ signed_decimal x) rest (codes "\n"))

-- the cells of one row
one_row : (width : ℕ) (xs : List ℤ) → 0 < width → length xs ≡ width → cells_from width 0 xs ≡ join_by signed_decimal (codes " ") xs ++ codes "\n"
one_row width [] some sum = absurd (omega (arith, sum))
one_row width (x ∷ []) some sum =
    ap (λ t. t ++ []) (cell_is width 0 x [] (codes "\n") refl (is_last width 0 (omega (arith, sum))))
    ∙ append-nil (signed_decimal x ++ codes "\n") ∙ sym (ap (λ t. t ++ codes "\n") (append-nil (signed_decimal x)))
one_row width (x ∷ y ∷ ys) some sum =
    let room : 0 + 1 < width = omega (arith, sum) in
    let next : (0 + 1) % width ≡ 1 = mod-eq_of_lt room in
    let rest = flat_map (λ v. codes " " ++ signed_decimal v) (y ∷ ys) in
    ap (λ t. t ++ cells_from width ((0 + 1) % width) (y ∷ ys)) (cell_is width 0 x [] [] refl (not_last width 0 room) ∙ append-nil (signed_decimal x))
    ∙ ap (λ k. signed_decimal x ++ cells_from width k (y ∷ ys)) next
    ∙ ap (λ t. signed_decimal x ++ t) (tail_row width 1 (y ∷ ys) (omega arith) room (omega (arith, sum)))
    ∙ sym (append_assoc (signed_decimal x) rest (codes "\n"))

-- the cells from the first on are the rows
pub cells_are_rows : (rows width : ℕ) (values : List ℤ) → 0 < width → length values ≡ rows * width → cells_from width 0 values ≡ rows_text rows width values
cells_are_rows zero width [] some count = refl
cells_are_rows zero width (v ∷ vs) some count = absurd (omega (arith, count))
cells_are_rows (suc rows) width values some count =
    let product : suc rows * width ≡ width + rows * width = suc-mul rows width ∙ (let turned : rows * width + width ≡ width + rows * width = omega arith in turned) in
    let enough : width ≤ length values = omega (arith, count, product) in
    let first : length (take width values) ≡ width = length-take-le width values enough in
    let left : length (drop width values) ≡ rows * width = length-drop width values ∙ (omega (arith, count, product)) in
    let back : (0 + length (take width values)) % width ≡ 0 = ap (λ k. k % width) (let sum : 0 + length (take width values) ≡ width = omega (arith, first) in sum) ∙ mod_self width in
    ap (cells_from width 0) (sym (take-append-drop width values))
    ∙ cells_append width 0 (take width values) (drop width values) some
    ∙ ap (λ t. t ++ cells_from width ((0 + length (take width values)) % width) (drop width values)) (one_row width (take width values) some first)
    ∙ ap (λ k. (join_by signed_decimal (codes " ") (take width values) ++ codes "\n") ++ cells_from width k (drop width values)) back
    ∙ ap (λ t. (join_by signed_decimal (codes " ") (take width values) ++ codes "\n") ++ t) (cells_are_rows rows width (drop width values) some left)
