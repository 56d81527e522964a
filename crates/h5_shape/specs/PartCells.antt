-- The selected cells that the parts of a selection hold, each by its position in every dimension (File Format Specification 3.0, section
-- III.A.1, chunked raw data; HDF5 dataspace reference, H5Sselect_hyperslab).
use Rattle.std.specs.Prelude.{◌≡◌, ℕ, ◌+◌, ◌*◌, ◌/◌, ◌%◌, ◌<◌, ◌≤◌, List, [], ◌∷◌, map}
use Rattle.std.specs.List.{All, AllPairs, AllZip, Any}
use Rattle.h5_model.specs.Format.Links.{Before}
use Rattle.h5_model.specs.Tree.Grid.{corner_of}
use Rattle.h5_model.specs.Tree.Places.{IsInside}
use Rattle.h5_model.specs.Views.Selection.{Slab}
use Rattle.h5_shape.specs.declared.parts.Span.{Span}

-- how many numbers each axis selects
abbrev pub selection_shape : Slab → List ℕ
selection_shape slab = map (λ a. a.count * a.block) slab

-- the selected index at a position in every dimension: cell t % block of block t / block
abbrev pub selected_index : Slab → List ℕ → List ℕ
selected_index [] at = []
selected_index (a ∷ rest) [] = []
selected_index (a ∷ rest) (t ∷ ts) = (a.start + t / a.block * a.stride + t % a.block) ∷ selected_index rest ts

-- the part holds the selected cell at this position
abbrev pub HoldsCell : List Span → List ℕ → Type 0
HoldsCell part at = AllZip (λ (s : Span) t. (s.from ≤ t) × (t < s.from + s.length)) part at

-- the first index of its box
abbrev pub part_corner : List Span → List ℕ
part_corner part = map (λ s. s.corner) part

-- Each selected cell is in a part, what a part holds are selected cells of its box, none is empty, and the boxes stand in row-major order,
-- each once.
pub record AreParted (slab : Slab) (boxes : List ℕ) (parts : List (List Span)) : Type 0 where
  pub held : (at : List ℕ) → IsInside (selection_shape slab) at → Any (λ part. HoldsCell part at) parts
  pub cells : All (λ part. (at : List ℕ) → HoldsCell part at → IsInside (selection_shape slab) at × (corner_of boxes (selected_index slab at) ≡ part_corner part)) parts
  pub some : All (λ part. (at : List ℕ) × HoldsCell part at) parts
  pub order : AllPairs Before (map part_corner parts)
