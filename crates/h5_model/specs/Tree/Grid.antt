-- The grid of boxes that chunks cut an array into (File Format Specification 3.0, section III.A.1, chunked raw data: the key of a
-- chunk is its first index). The boxes at the far edges reach past the array.
use Rattle.std.specs.Prelude.{ℕ, ◌+◌, ◌-◌, ◌*◌, ◌/◌, ◌%◌, Bool, List, [], ◌∷◌, map}
use Rattle.std.specs.List.{range_with_len, list_any}
use Rattle.h5_model.specs.Tree.Places.{cells, index_of}

-- the first index of the chunk whose box holds the index
abbrev pub corner_of : List ℕ → List ℕ → List ℕ
corner_of [] index = []
corner_of (c ∷ cs) [] = []
corner_of (c ∷ cs) (i ∷ is) = i / c * c ∷ corner_of cs is

-- the index inside that box
abbrev pub inner_of : List ℕ → List ℕ → List ℕ
inner_of [] index = []
inner_of (c ∷ cs) [] = []
inner_of (c ∷ cs) (i ∷ is) = i % c ∷ inner_of cs is

-- how many boxes of this size it takes
abbrev pub boxes_along : ℕ → ℕ → ℕ
boxes_along size box = (size + box - 1) / box

-- how many boxes there are in each dimension
abbrev pub grid_of : List ℕ → List ℕ → List ℕ
grid_of [] box = []
grid_of (d ∷ ds) [] = []
grid_of (d ∷ ds) (b ∷ bs) = boxes_along d b ∷ grid_of ds bs

-- the index at an inner index of a box
abbrev pub in_box : List ℕ → List ℕ → List ℕ → List ℕ
in_box [] box inner = []
in_box (n ∷ ns) [] inner = []
in_box (n ∷ ns) (b ∷ bs) [] = []
in_box (n ∷ ns) (b ∷ bs) (i ∷ is) = (n * b + i) ∷ in_box ns bs is

-- the index at which the box at a place in the grid begins: the offsets of its chunk
abbrev pub first_of_box : List ℕ → List ℕ → List ℕ
first_of_box [] at = []
first_of_box (b ∷ bs) [] = []
first_of_box (b ∷ bs) (n ∷ ns) = n * b ∷ first_of_box bs ns

-- some index of the box passes
abbrev pub some_in_box : List ℕ → (List ℕ → Bool) → List ℕ → Bool
some_in_box box test at = list_any (λ place. test (in_box at box (index_of box place))) (range_with_len 0 (cells box))

-- the places of all boxes in the grid, in row-major order
abbrev pub boxes_of : List ℕ → List ℕ → List (List ℕ)
boxes_of sizes box = map (index_of (grid_of sizes box)) (range_with_len 0 (cells (grid_of sizes box)))
