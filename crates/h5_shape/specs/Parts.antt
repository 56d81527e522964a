-- Which boxes of a chunk grid hold selected cells, and which of the selected cells each of them holds (File Format Specification 3.0,
-- section III.A.1, chunked raw data; HDF5 dataspace reference, H5Sselect_hyperslab).
use Rattle.std.specs.Prelude.{ℕ, ◌+◌, ◌*◌, ◌/◌, ◌==◌, if◌then◌else◌, List, [], ◌∷◌, map}
use Rattle.std.specs.List.{flat_map}
use Rattle.h5_model.specs.declared.hyperslab.Axis.{Axis}
use Rattle.h5_model.specs.Views.Selection.{Slab}
use Rattle.h5_shape.specs.declared.parts.Span.{Span}
use Rattle.h5_shape.specs.SpacedPlaces.{spaced_places}

-- the numbers that an axis selects, block after block
abbrev pub numbers_along : Axis → List ℕ
numbers_along a = flat_map (spaced_places a.block 1) (spaced_places a.count a.stride a.start)

-- the number at a position before spans: in the first of them where that is of its box, else in a span of its own
abbrev pub span_number : ℕ → ℕ → ℕ → List Span → List Span
span_number box at x [] = record { corner = x / box * box; from = at; length = 1 } ∷ []
span_number box at x (s ∷ ss) =
    if s.corner == x / box * box then record { corner = s.corner; from = at; length = s.length + 1 } ∷ ss
    else record { corner = x / box * box; from = at; length = 1 } ∷ s ∷ ss

-- numbers by their boxes, where the first stands at this position
abbrev pub spans_from : ℕ → ℕ → List ℕ → List Span
spans_from box at [] = []
spans_from box at (x ∷ xs) = span_number box at x (spans_from box (at + 1) xs)

-- the boxes along an axis that hold a selected number
abbrev pub spans_along : Axis → ℕ → List Span
spans_along a box = spans_from box 0 (numbers_along a)

-- the boxes that hold a selected cell, in row-major order
abbrev pub parts_of : Slab → List ℕ → List (List Span)
parts_of [] boxes = [] ∷ []
parts_of (a ∷ rest) [] = [] ∷ []
parts_of (a ∷ rest) (b ∷ bs) = flat_map (λ s. map (λ part. s ∷ part) (parts_of rest bs)) (spans_along a b)
