-- Kept cells of which some are set to an array's (File Format Specification 3.0, section III.A.1, chunked raw data; HDF5 dataspace
-- reference, H5Sselect_hyperslab).
use Rattle.std.specs.Prelude.{◌≡◌, ℕ, ◌+◌, ◌*◌, ◌≢◌, ℤ, List, [], ◌∷◌, ◌++◌, length}
use Rattle.std.specs.List.{AllByRecursion, Contains, flat_map, range_with_len}
use Rattle.h5_bytes.specs.Bytes.{part, with_part}
use Rattle.h5_model.specs.Edits.Applied.{cell_or_fill}
use Rattle.h5_model.specs.Format.Fixed.{Fixed, bytes_of}
use Rattle.h5_model.specs.Tree.Grid.{corner_of}
use Rattle.h5_model.specs.Tree.Objects.{Dataset}
use Rattle.h5_model.specs.Tree.Places.{IsInside, place_of}
use Rattle.h5_model.specs.Views.Selection.{Slab, selected_cells}
use Rattle.h5_shape.specs.InBox.{IsCorner, number_along}
use Rattle.h5_shape.specs.PartCells.{selection_shape, selected_index}
use Rattle.h5_shape.specs.declared.parts.Span.{Span}

-- Places among the kept cells, and the values of the array there: those of the positions in the spans, behind an index so far and the place
-- to which its positions led.
abbrev pub writes_in : Dataset → Slab → List Span → ℕ → List ℕ → List (ℕ × ℤ)
writes_in d [] spans place index = (place, cell_or_fill d index) ∷ []
writes_in d (a ∷ rest) [] place index = []
writes_in d (a ∷ rest) (s ∷ ss) place index =
    flat_map (λ t. writes_in d rest ss (place * (a.count * a.block) + t) (index ++ number_along a t ∷ [])) (range_with_len s.from s.length)

-- the bytes with these values at these places
abbrev pub with_writes : Fixed → List (ℕ × ℤ) → List ℕ → List ℕ
with_writes t [] bytes = bytes
with_writes t (w ∷ ws) bytes = with_writes t ws (with_part (w.0 * t.size) (bytes_of t w.1) bytes)

-- the bytes of the kept cell at a position in every dimension
abbrev pub kept_cell : Slab → ℕ → List ℕ → List ℕ → List ℕ
kept_cell slab size bytes at = part (place_of (selection_shape slab) at * size) size bytes

-- whatever was kept: the selected cells in the box of this first index are the array's, the fill outside its sizes, and all others are as
-- they were
pub record IsPatched (d : Dataset) (slab : Slab) (corner box old new : List ℕ) : Type 0 where
  pub long : length new ≡ length old
  pub inside : (at : List ℕ) → IsInside (selection_shape slab) at → corner_of box (selected_index slab at) ≡ corner
      → kept_cell slab d.fixed.size new at ≡ bytes_of d.fixed (cell_or_fill d (selected_index slab at))
  pub outside : (at : List ℕ) → IsInside (selection_shape slab) at → corner_of box (selected_index slab at) ≢ corner
      → kept_cell slab d.fixed.size new at ≡ kept_cell slab d.fixed.size old at

-- the same of several boxes
pub record ArePatched (d : Dataset) (slab : Slab) (corners : List (List ℕ)) (box old new : List ℕ) : Type 0 where
  pub long : length new ≡ length old
  pub inside : (at : List ℕ) → IsInside (selection_shape slab) at → Contains corners (corner_of box (selected_index slab at))
      → kept_cell slab d.fixed.size new at ≡ bytes_of d.fixed (cell_or_fill d (selected_index slab at))
  pub outside : (at : List ℕ) → IsInside (selection_shape slab) at → (Contains corners (corner_of box (selected_index slab at)) → ⊥)
      → kept_cell slab d.fixed.size new at ≡ kept_cell slab d.fixed.size old at

-- first indexes of boxes of a grid in as many dimensions as the selection has
abbrev pub AreCorners : Slab → List ℕ → List (List ℕ) → Type 0
AreCorners slab box corners = AllByRecursion (λ corner. (length corner ≡ length slab) × IsCorner box corner) corners

-- each kept cell is the array's, the fill outside its sizes
pub record AreKeptCells (d : Dataset) (slab : Slab) (bytes : List ℕ) : Type 0 where
  pub long : length bytes ≡ selected_cells slab * d.fixed.size
  pub each : (at : List ℕ) → IsInside (selection_shape slab) at → kept_cell slab d.fixed.size bytes at ≡ bytes_of d.fixed (cell_or_fill d (selected_index slab at))

-- what is kept: the bytes of the selected cells, and how often they were patched
pub record KeptState : Type 0 where
  pub bytes : List ℕ
  pub patches : ℕ
