-- Hyperslab selections (HDF5 dataspace reference, H5Sselect_hyperslab). A selection without dimensions selects a scalar's cell.
use Rattle.std.specs.Prelude.{◌≡◌, ℕ, ◌+◌, ◌-◌, ◌*◌, ◌<◌, ◌==◌, ◌&&◌, ◌||◌, Bool, true, false, nat_lt, nat_le, List, [], ◌∷◌, length, filter}
use Rattle.std.specs.List.{AllZip, range_with_len, list_any, list_all, zip}
use Rattle.h5_model.specs.Tree.Places.{cells, index_of}
use Rattle.h5_model.specs.Scripts.Tests.{some_below}
use Rattle.h5_model.specs.declared.hyperslab.Hyper.{Hyper}
use Rattle.h5_model.specs.declared.hyperslab.Axis.{Axis}

-- one axis for each dimension
abbrev pub Slab : Type 0
Slab = List Axis

-- cell j of block i
abbrev pub SelectedAlong : Axis → ℕ → Type 0
SelectedAlong a x = (i : ℕ) × (j : ℕ) × (i < a.count) × (j < a.block) × (x ≡ a.start + i * a.stride + j)

-- the index is selected in every dimension
abbrev pub Selected : Slab → List ℕ → Type 0
Selected slab index = AllZip SelectedAlong slab index

-- block i holds x
abbrev pub in_block : Axis → ℕ → ℕ → Bool
in_block a x i = nat_le (a.start + i * a.stride) x && nat_lt x (a.start + i * a.stride + a.block)

-- the same as tests
abbrev pub is_selected_along : Axis → ℕ → Bool
is_selected_along a x = some_below a.count (in_block a x)

abbrev pub is_selected : Slab → List ℕ → Bool
is_selected [] [] = true
is_selected [] (x ∷ xs) = false
is_selected (a ∷ rest) [] = false
is_selected (a ∷ rest) (x ∷ xs) = is_selected_along a x && is_selected rest xs

-- the places of the selected cells of an array, in row-major order
unfoldable pub selection_of : List ℕ → Slab → List ℕ
selection_of sizes slab = filter (λ place. is_selected slab (index_of sizes place)) (range_with_len 0 (cells sizes))

-- how many cells are selected, where no blocks overlap
abbrev pub selected_cells : Slab → ℕ
selected_cells [] = 1
selected_cells (a ∷ rest) = a.count * a.block * selected_cells rest

-- every selected index is inside the sizes
abbrev pub Within : List ℕ → Slab → Type 0
Within sizes slab = (index : List ℕ) → Selected slab index → AllZip (λ d i. i < d) sizes index

-- the end of the last block is at most the size
abbrev pub fits_along : ℕ → Axis → Bool
fits_along size a = nat_le (a.start + (a.count - 1) * a.stride + a.block) size

abbrev pub fits_all : List ℕ → Slab → Bool
fits_all sizes slab = list_all (λ p. fits_along p.0 p.1) (zip sizes slab)

-- an axis, and so the whole selection, selects nothing
abbrev pub has_no_cell : Axis → Bool
has_no_cell a = a.count == 0 || a.block == 0

abbrev pub selects_none : Slab → Bool
selects_none slab = list_any has_no_cell slab

-- The same as a test, for as many sizes as axes (with fewer of one, the rest of the other is not looked at). A selection of no cell is
-- within any sizes.
abbrev pub is_within : List ℕ → Slab → Bool
is_within sizes slab = selects_none slab || fits_all sizes slab

-- these are consecutive numbers
abbrev pub rises_by_one : ℕ → List ℕ → Bool
rises_by_one place [] = true
rises_by_one place (p ∷ ps) = p == place && rises_by_one (place + 1) ps

abbrev pub is_run : List ℕ → Bool
is_run [] = false
is_run (p ∷ ps) = rises_by_one (p + 1) ps

-- at least one cell is selected, and the cells stand at consecutive places
abbrev pub is_one_run : List ℕ → Slab → Bool
is_one_run sizes slab = is_run (selection_of sizes slab)

-- the axes of a hyperslab's four lists
abbrev pub axes_from : List ℕ → List ℕ → List ℕ → List ℕ → Slab
axes_from (s ∷ starts) (t ∷ strides) (c ∷ counts) (b ∷ blocks) =
    record { start = s; stride = t; count = c; block = b } ∷ axes_from starts strides counts blocks
axes_from _ _ _ _ = []

abbrev pub axes_of : Hyper → Slab
axes_of h = axes_from h.start h.stride h.count h.block

-- the lists are as long as this rank
abbrev pub has_rank : ℕ → Hyper → Bool
has_rank rank h =
    (length h.start == rank && length h.stride == rank) && (length h.count == rank && length h.block == rank)

abbrev pub has_no_stride : Axis → Bool
has_no_stride a = a.stride == 0

-- a block begins before the one before it ends
abbrev pub overlaps : Axis → Bool
overlaps a = nat_lt a.stride a.block && nat_lt 1 a.count
