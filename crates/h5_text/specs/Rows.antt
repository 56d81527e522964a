-- The cells of an array, cell by cell, in rows of so many.
use Rattle.std.specs.Prelude.{ℕ, ◌+◌, ◌%◌, ◌==◌, ℤ, List, [], ◌∷◌, ◌++◌, if◌then◌else◌, codes}
use Rattle.std.specs.Fmt.{signed_decimal}

-- a cell in its column: a space before all but the first, the line's end behind the last
abbrev pub cell_text : ℕ → ℕ → ℤ → List ℕ
cell_text width column value =
    (if column == 0 then [] else codes " ") ++ (signed_decimal value ++ (if column + 1 == width then codes "\n" else []))

-- cells from a column on
abbrev pub cells_from : ℕ → ℕ → List ℤ → List ℕ
cells_from width column [] = []
cells_from width column (v ∷ vs) = cell_text width column v ++ cells_from width ((column + 1) % width) vs
