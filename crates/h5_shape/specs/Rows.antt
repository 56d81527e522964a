-- Selected cells as rows of groups: the groups of a row stand a step apart, and each has so many consecutive cells (HDF5 dataspace
-- reference, H5Sselect_hyperslab).
use Rattle.std.specs.Prelude.{◌≡◌, ℕ, zero, suc, ◌+◌, ◌*◌, ◌/◌, ◌%◌, ◌^◌, ◌<◌, ◌≤◌, ◌≢◌, Bool, true, false, if◌then◌else◌, ⊤, List, [], ◌∷◌, ◌++◌, length}
use Rattle.std.specs.List.{flat_map, list_any}
use Rattle.h5_model.specs.Format.Limits.{most_cells}
use Rattle.h5_model.specs.Tree.Places.{cells, index_of, place_of}
use Rattle.h5_model.specs.Views.Selection.{Slab, fits_all, overlaps, selects_none}
use Rattle.h5_shape.specs.declared.rows.CellRows.{CellRows}
use Rattle.h5_shape.specs.declared.rows.RowWalk.{RowWalk}
use Rattle.h5_shape.specs.SpacedPlaces.{spaced_places, ArePlacesBelow}
use Rattle.h5_shape.specs.PartCells.{selection_shape, selected_index}

-- the place of the selected cell of this number, counted in row-major order
abbrev pub selected_place : List ℕ → Slab → ℕ → ℕ
selected_place sizes slab n = place_of sizes (selected_index slab (index_of (selection_shape slab) n))

-- how many cells a row has, and all rows
abbrev pub row_cells : CellRows → ℕ
row_cells r = (r.more + 1) * r.length

abbrev pub cells_in : CellRows → ℕ
cells_in r = r.count * row_cells r

-- the groups of a row do not touch
abbrev pub HasGaps : CellRows → Type 0
HasGaps r = 0 < r.more → r.step ≢ r.length

-- numbered cells, with the place of each, stand in these rows
pub record IsRowed (place : ℕ → ℕ) (r : CellRows) : Type 0 where
  pub long : 0 < r.length
  pub rows : 0 < r.count
  pub stand : (q i j : ℕ) → q < r.count → i ≤ r.more → j < r.length
      → place (q * row_cells r + (i * r.length + j)) ≡ place (q * row_cells r) + (i * r.step + j)

-- so many cells again and again, a step apart
abbrev pub repeated_place : (ℕ → ℕ) → ℕ → ℕ → ℕ → ℕ
repeated_place place total step n = place (n % total) + n / total * step

-- the places of the groups of so many rows, the first of which begins with the cell of this number
abbrev pub groups_from : (ℕ → ℕ) → CellRows → ℕ → ℕ → List ℕ
groups_from place r zero next = []
groups_from place r (suc n) next = spaced_places (r.more + 1) r.step (place next) ++ groups_from place r n (next + row_cells r)

-- the groups behind the one at this place
abbrev pub groups_ahead : RowWalk → ℕ → List ℕ
groups_ahead w at =
    spaced_places w.left w.rows.step (at + w.rows.step) ++ groups_from (selected_place w.sizes.now w.axes.now) w.rows w.behind w.next

-- the cells of groups at these places
abbrev pub cells_at : ℕ → List ℕ → List ℕ
cells_at long places = flat_map (spaced_places long 1) places

-- a walk over selected cells of an array, which has the rows that are to come
pub record IsWalk (w : RowWalk) : Type 0 where
  pub rank : length w.sizes.now ≡ length w.axes.now
  pub fits : fits_all w.sizes.now w.axes.now ≡ true
  pub some : selects_none w.axes.now ≡ false
  pub apart : list_any overlaps w.axes.now ≡ false
  pub small : cells w.sizes.now ≤ most_cells
  pub few : cells (selection_shape w.axes.now) ≤ most_cells
  pub ahead : w.next + w.behind * row_cells w.rows ≤ cells (selection_shape w.axes.now)
  pub long : 0 < w.rows.length
  pub left : w.left ≤ w.rows.more
  pub gaps : HasGaps w.rows

-- the cells from the group at this place on, or none
abbrev pub left_of : RowWalk → ℕ → Bool → List ℕ
left_of w place more = if more then cells_at w.rows.length (place ∷ groups_ahead w place) else []

abbrev pub IsWalkIfMore : RowWalk → Bool → Type 0
IsWalkIfMore w true = IsWalk w
IsWalkIfMore w false = ⊤

-- room for the next run
pub record IsRoomy (w : RowWalk) (place : ℕ) (more : Bool) : Type 0 where
  pub small : ArePlacesBelow (2 ^ 41) (left_of w place more)
  pub walk : IsWalkIfMore w more
