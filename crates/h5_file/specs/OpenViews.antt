-- The open views of a session as they are held, each with the bytes that it keeps (selections: HDF5 dataspace reference,
-- H5Sselect_hyperslab).
use Rattle.std.specs.Prelude.{◌≡◌, ◌≢◌, ℕ, ◌+◌, ◌*◌, ◌<◌, ◌≤◌, true, false, IfSome, Option, Some, None, List, [], ◌∷◌, map, length, slice_index_or, slice_set}
use Rattle.std.specs.FinMap.{from_entries}
use Rattle.std.specs.List.{AllByRecursion}
use Rattle.std.specs.Option.{option_map}
use Rattle.h5_laws.specs.Rising.{RiseWithin}
use Rattle.h5_model.specs.Format.Limits.{most_views, most_numbers}
use Rattle.h5_model.specs.Tree.Objects.{Tree, Dataset, dataset_of}
use Rattle.h5_model.specs.Views.Selection.{Slab, selected_cells, selects_none}
use Rattle.h5_model.specs.Views.Shown.{View, Views, box_of, is_lent}
use Rattle.h5_edit.specs.Opened.State.{FileState}
use Rattle.h5_shape.specs.InBox.{AreApart}
use Rattle.h5_file.specs.Patched.{AreKeptCells, ArePatched, KeptState}
use Rattle.h5_file.specs.Session.{Patches, SessionState}
use Rattle.h5_file.specs.Touched.{met_with}
use Rattle.h5_file.specs.declared.touched.Touched.{Touched}
use Rattle.h5_file.specs.declared.views.KeptView.{KeptView}

-- what is held of a view, without its bytes; and with its number
abbrev pub view_of : KeptView → View
view_of v = record { object = v.object; slab = v.slab }

abbrev pub numbered_view : KeptView → ℕ × View
numbered_view v = (v.number, view_of v)

abbrev pub views_of : List KeptView → Views
views_of views = from_entries (map numbered_view views)

-- how often its bytes were patched, where it keeps some; and with its number
abbrev pub patches_in : Option KeptState → Option ℕ
patches_in kept = option_map (λ k. k.patches) kept

abbrev pub numbered_patches : KeptView → ℕ × Option ℕ
numbered_patches v = (v.number, patches_in v.kept)

abbrev pub patches_of : List KeptView → Patches
patches_of views = from_entries (map numbered_patches views)

abbrev pub session_state : FileState → List KeptView → ℕ → SessionState
session_state file views next = record { file = file; views = views_of views; next_view = next; patches = patches_of views }

-- their numbers rise, and are below this one
abbrev pub AreNumbered : List KeptView → ℕ → Type 0
AreNumbered views end = RiseWithin (λ (v : KeptView). v.number) 0 views end

-- there is room for the bytes of just the selected cells
abbrev pub HasKeptLength : Dataset → Slab → Option KeptState → Type 0
HasKeptLength d slab kept = IfSome kept (λ k. length k.bytes ≡ selected_cells slab * d.fixed.size)

-- The object's number was given out. Where it is an array, the selection has an axis for each dimension, and there is room for its cells.
-- Where cells are selected, no two blocks share one.
pub record IsViewFit (tree : Tree) (next : ℕ) (v : KeptView) : Type 0 where
  pub given : v.object < next
  pub ranked : (d : Dataset) → dataset_of tree v.object ≡ Some d → length v.slab ≡ length d.sizes
  pub apart : selects_none v.slab ≡ false → AreApart v.slab
  pub room : (d : Dataset) → dataset_of tree v.object ≡ Some d → HasKeptLength d v.slab v.kept

-- the same of a view of this array alone
pub record IsViewReady (d : Dataset) (v : KeptView) : Type 0 where
  pub ranked : length v.slab ≡ length d.sizes
  pub apart : selects_none v.slab ≡ false → AreApart v.slab
  pub room : HasKeptLength d v.slab v.kept

-- the same of those views that are of the array of this number
abbrev pub AreViewsReady : ℕ → Dataset → List KeptView → Type 0
AreViewsReady number d views = AllByRecursion (λ (v : KeptView). v.object ≡ number → IsViewReady d v) views

-- The bytes of cells that can be lent are not kept. Of all others the kept cells are the array's, the fill outside its sizes.
abbrev pub IsKeptOf : Dataset → Slab → Option KeptState → Type 0
IsKeptOf d slab None = is_lent d slab ≡ true
IsKeptOf d slab (Some k) = (is_lent d slab ≡ false) × AreKeptCells d slab k.bytes

abbrev pub IsViewShown : Tree → KeptView → Type 0
IsViewShown tree v = (d : Dataset) → dataset_of tree v.object ≡ Some d → IsKeptOf d v.slab v.kept

-- what every session keeps to
pub record AreViewsKept (file : FileState) (views : List KeptView) (next : ℕ) : Type 0 where
  pub numbered : AreNumbered views next
  pub low : next ≤ most_numbers
  pub few : length views ≤ most_views
  pub fit : AllByRecursion (IsViewFit file.tree file.next) views
  pub shown : AllByRecursion (IsViewShown file.tree) views

-- the view at this place is the one of the number
pub record IsViewAt (views : List KeptView) (number at : ℕ) : Type 0 where
  pub below : at < length views
  pub number_is : (d : KeptView) → (slice_index_or views at d).number ≡ number

-- ---- an edit of the array

-- each box that is met was patched once, and so many there are
pub record IsMetPatched (d : Dataset) (touched : Touched) (slab : Slab) (before : KeptState) (count : ℕ) (after : KeptState) : Type 0 where
  pub counted : count ≡ length (met_with d touched slab)
  pub patches : after.patches ≡ before.patches + count
  pub bytes : ArePatched d slab (met_with d touched slab) (box_of d) before.bytes after.bytes

-- a view that can be lent by now keeps no bytes; what another keeps follows the array, as this is now
abbrev pub IsKeptAfter : Dataset → Touched → Slab → Option KeptState → ℕ → Option KeptState → Type 0
IsKeptAfter d touched slab None count after = (count ≡ 0) × (after ≡ None)
IsKeptAfter d touched slab (Some before) count None = (count ≡ 0) × (is_lent d slab ≡ true)
IsKeptAfter d touched slab (Some before) count (Some after) = (is_lent d slab ≡ false) × IsMetPatched d touched slab before count after

-- the view of this number follows its array, and any other stays
pub record IsOneFollowed (d : Dataset) (touched : Touched) (before : List KeptView) (number count : ℕ) (after : List KeptView) : Type 0 where
  pub at : ℕ
  pub there : IsViewAt before number at
  pub view : KeptView
  pub same : (v : KeptView) → numbered_view view ≡ numbered_view (slice_index_or before at v)
  pub kept : (v : KeptView) → IsKeptAfter d touched (slice_index_or before at v).slab (slice_index_or before at v).kept count view.kept
  pub after_is : after ≡ slice_set before at view

-- a view of the array of this number follows it, and any other stays
pub record IsViewFollowed (number : ℕ) (d : Dataset) (touched : Touched) (before : KeptView) (count : ℕ) (after : KeptView) : Type 0 where
  pub same : numbered_view after ≡ numbered_view before
  pub own : before.object ≡ number → IsKeptAfter d touched before.slab before.kept count after.kept
  pub other : before.object ≢ number → (count ≡ 0) × (after.kept ≡ before.kept)

-- all of them, with the sum of their counts
abbrev pub AreViewsFollowed : ℕ → Dataset → Touched → List KeptView → ℕ → List KeptView → Type 0
AreViewsFollowed number d touched [] count [] = count ≡ 0
AreViewsFollowed number d touched (v ∷ vs) count (w ∷ ws) =
    (one : ℕ) × (rest : ℕ) × (count ≡ one + rest) × IsViewFollowed number d touched v one w × AreViewsFollowed number d touched vs rest ws
AreViewsFollowed number d touched _ count _ = ⊥
