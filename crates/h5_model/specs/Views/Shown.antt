-- Views: what an open view shows, whether it is lent from the image, and the chunks that it shares with an edit.
use Rattle.std.specs.Prelude.{ℕ, ◌==◌, ◌&&◌, Bool, true, false, not, if◌then◌else◌, ℤ, Result, Ok, Err, List, [], ◌∷◌, map, length, filter, slice_index_or, sum_by}
use Rattle.std.specs.Ordering.{nat_cmp}
use Rattle.std.specs.FinMap.{FinMap, get, values}
use Rattle.std.specs.List.{flat_map}
use Rattle.std.specs.Option.{option_map_or}
use Rattle.h5_model.specs.Format.Fixed.{Fixed, bytes_of}
use Rattle.h5_model.specs.Tree.Places.{is_inside}
use Rattle.h5_model.specs.Tree.Grid.{some_in_box, boxes_of}
use Rattle.h5_model.specs.Views.Selection.{Slab, axes_of, selection_of, is_selected, is_within, is_one_run}
use Rattle.h5_model.specs.Tree.Objects.{Tree, Dataset, Storage, Compact, Contiguous, Chunked, dataset_of}
use Rattle.h5_model.specs.Tree.Paths.{object_at}
use Rattle.h5_model.specs.declared.edits.Edit.{Edit}
use Rattle.h5_model.specs.declared.edits.Edit.TheVariants.{Write, Resize}
use Rattle.h5_model.specs.declared.view_fault.ViewFault.{ViewFault}
use Rattle.h5_model.specs.declared.view_fault.ViewFault.TheVariants as fault

-- a view goes by an object's number
pub record View : Type 0 where
  pub object : ℕ
  pub slab : Slab

-- the open views by their numbers
abbrev pub Views : Type 0
Views = FinMap nat_cmp View

-- the selected values of an array, in row-major order
abbrev pub selected_values : Dataset → Slab → List ℤ
selected_values d slab = map (λ place. slice_index_or d.cells place d.fill) (selection_of d.sizes slab)

-- what is shown: the dataset's type, and the values as stored bytes
pub record Shown : Type 0 where
  pub fixed : Fixed
  pub bytes : List ℕ

abbrev pub shown_by : Dataset → Slab → Result Shown ViewFault
shown_by d slab =
    if is_within d.sizes slab
    then Ok (record { fixed = d.fixed; bytes = flat_map (bytes_of d.fixed) (selected_values d slab) })
    else Err fault.OutsideNow

abbrev pub shown_of : Tree → View → Result Shown ViewFault
shown_of tree view = option_map_or (λ d. shown_by d view.slab) (dataset_of tree view.object) (Err fault.Gone)

-- what the view of this number shows
abbrev pub shows : Tree → Views → ℕ → Result Shown ViewFault
shows tree views number = option_map_or (shown_of tree) (get views number) (Err fault.NoSuchView)

-- the cells are stored one after another in the image
abbrev pub is_in_line : Storage → Bool
is_in_line Compact = true
is_in_line (Contiguous stored) = stored
is_in_line (Chunked sizes) = false

-- the selected cells, each of them inside, stand in one piece of the image
abbrev pub is_lent : Dataset → Slab → Bool
is_lent d slab = is_in_line d.storage && (is_within d.sizes slab && is_one_run d.sizes slab)

-- ---- the chunks that an edit and a view both meet

-- the sizes of a box of the grid; an array that isn't chunked is one box
abbrev pub box_of : Dataset → List ℕ
box_of d = sizes d.storage where
  sizes : Storage → List ℕ
  sizes Compact = d.sizes
  sizes (Contiguous stored) = d.sizes
  sizes (Chunked chunk) = chunk

-- the boxes, by their place in the grid, that hold an index of the edit and one of the view. What an edit selects or loses lies
-- inside the extent, so only boxes of the extent's grid can be met; the view's index in such a box may lie past the extent.
unfoldable pub met_boxes : List ℕ → List ℕ → (List ℕ → Bool) → Slab → List (List ℕ)
met_boxes sizes box touched slab =
    filter (λ at. some_in_box box touched at && some_in_box box (is_selected slab) at)
    (boxes_of sizes box)

-- the indexes of an array that an edit selects or loses
abbrev pub is_touched : Edit → List ℕ → List ℕ → Bool
is_touched (Write path hyper values) sizes index = is_inside sizes index && is_selected (axes_of hyper) index
is_touched (Resize path dims) sizes index = is_inside sizes index && not (is_inside dims index)
is_touched _ sizes index = false

-- how many boxes of the array an edit of it and a view both meet
abbrev pub met_of : Dataset → Edit → Slab → ℕ
met_of d edit slab = length (met_boxes d.sizes (box_of d) (is_touched edit d.sizes) slab)

-- what a view adds to the count of an edit: the array was old and is new, and the view is gathered
abbrev pub met_by : ℕ → Dataset → Dataset → Edit → View → ℕ
met_by number old new edit view = if view.object == number && not (is_lent new view.slab) then met_of old edit view.slab else 0

-- the sum over the open views, of an edit that changes the old tree to the new one
abbrev pub refreshed_by : Tree → Tree → Views → ℕ → Edit → ℕ
refreshed_by old new views number edit = option_map_or (λ before. option_map_or
    (λ after. sum_by (met_by number before after edit) (values views)) (dataset_of new number) 0) (dataset_of old number) 0

-- the path of an edit that refreshes views
abbrev pub refreshing_path : Edit → List (List ℕ)
refreshing_path (Write path hyper values) = path ∷ []
refreshing_path (Resize path dims) = path ∷ []
refreshing_path _ = []

-- how many chunks an edit refreshes in the views; 0 for other edits than writes and resizes
abbrev pub refreshed_of : Tree → Tree → Views → Edit → ℕ
refreshed_of old new views edit =
    sum_by (λ path. option_map_or (λ number. refreshed_by old new views number edit) (object_at old path) 0) (refreshing_path edit)
