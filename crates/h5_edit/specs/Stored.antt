-- Storage made for cells that are to be written, and the cells written into it (File Format Specification 3.0, sections III.A.1 and
-- IV.A.2.i).
use Rattle.std.specs.Prelude.{◌≡◌, ℕ, ◌≤◌, ℤ, true, Option, Some, None, List, [], ◌∷◌, length}
use Rattle.std.specs.List.{Contains, list_all}
use Rattle.std.specs.Option.{option_map}
use Rattle.h5_model.specs.Edits.Applied.{with_dataset}
use Rattle.h5_model.specs.Edits.Refusal.{first_holding}
use Rattle.h5_model.specs.Format.Fixed.{fits}
use Rattle.h5_model.specs.Format.Limits.{most_cells}
use Rattle.h5_model.specs.Format.Superblock.{k_values}
use Rattle.h5_model.specs.Tree.Objects.{Dataset, Storage, dataset_of, with_object}
use Rattle.h5_model.specs.Tree.Places.{cells}
use Rattle.h5_model.specs.Views.Selection.{Slab, axes_of, selection_of}
use Rattle.h5_model.specs.declared.edits.Edit.TheVariants.{Write}
use Rattle.h5_model.specs.declared.edits.Edited.{Edited}
use Rattle.h5_model.specs.declared.hyperslab.Hyper.{Hyper}
use Rattle.h5_model.specs.declared.object_no.ObjectNo.{ObjectNo}
use Rattle.h5_query.specs.ChangedInPlace.{IsChangedInPlace}
use Rattle.h5_query.specs.Opened.Sound.{IsSound, IsWholeFile}
use Rattle.h5_query.specs.Opened.State.{FileState}
use Rattle.h5_query.specs.Selected.{hyper_rules}
use Rattle.h5_query.specs.Written.{IsCellStored, with_places}
use Rattle.h5_shape.specs.Runs.{AreMaximal, places_in}
use Rattle.h5_shape.specs.declared.runs.CellRun.{CellRun}
use Rattle.h5_edit.specs.Carried.{IsAccepted, tree_after}
use Rattle.h5_layout.specs.Lacking.{IsFound}
use Rattle.h5_edit.specs.Edited.{IsEdited, IsGrowth}
use Rattle.h5_edit.specs.Refusals.Allowed.{IsWriteAt}
use Rattle.h5_layout.specs.declared.lacking.Missing.{Missing}

-- ---- storage made

-- no rule of the tree refuses the write to the array of this number, of whose storage so much is missing, or nothing
pub record IsStoring (f : FileState) (path : List ℕ) (hyper : Hyper) (values : List ℤ) (number : ℕ) (missing : Option Missing) : Type 0 where
  pub sound : IsSound f
  pub write : IsWriteAt f path hyper values number
  pub found : IsFound f.image write.array (axes_of hyper) missing

-- the selected cells of the array of this number are stored
abbrev pub AreSelectedStored : FileState → ℕ → Slab → Type 0
AreSelectedStored f number slab =
    (d : Dataset) → dataset_of f.tree number ≡ Some d → (place : ℕ) → Contains (selection_of d.sizes slab) place → IsCellStored f number place

-- The write is accepted, and the selected cells of the array of this number are stored now. The array alone was touched, and the image has
-- grown by no more than the write needs. With the values in the cells the tree is the one that the write gives.
pub record HasStorage (f : FileState) (path : List ℕ) (hyper : Hyper) (values : List ℤ) (number : ℕ) (now : FileState) : Type 0 where
  pub accepted : IsAccepted f (Write path hyper values)
  pub bytes : ℕ
  pub growth : IsGrowth f (Write path hyper values) bytes
  pub changed : IsChangedInPlace f now now.tree f.next (number ∷ []) bytes
  pub before : Dataset
  pub was : dataset_of f.tree number ≡ Some before
  pub storage : Storage
  pub array : dataset_of now.tree number ≡ Some (record before { storage = storage })
  pub stored : AreSelectedStored now number (axes_of hyper)
  pub gives : with_object now.tree number (with_dataset (with_places (selection_of before.sizes (axes_of hyper)) values))
      ≡ tree_after f (Write path hyper values)

-- ---- cells written

-- no rule of the array of this number refuses the values for these selected cells, each of which is stored
pub record AreSelectedReady (f : FileState) (number : ℕ) (hyper : Hyper) (values : List ℤ) (d : Dataset) : Type 0 where
  pub array : dataset_of f.tree number ≡ Some d
  pub selects : first_holding (hyper_rules d.sizes hyper) ≡ None
  pub counted : length values ≡ length (selection_of d.sizes (axes_of hyper))
  pub of_type : list_all (fits d.fixed) values ≡ true
  pub stored : AreSelectedStored f number (axes_of hyper)

-- these are the maximal runs of the selected cells of an array of these sizes
pub record AreSelectedRuns (sizes : List ℕ) (hyper : Hyper) (runs : List CellRun) : Type 0 where
  pub places : places_in runs ≡ selection_of sizes (axes_of hyper)
  pub maximal : AreMaximal runs
  pub few : cells sizes ≤ most_cells

-- of the opened image the array of this number alone is another, which has these values in the cells at these places
pub record AreValuesWritten (old : FileState) (number : ℕ) (places : List ℕ) (values : List ℤ) (new : FileState) : Type 0 where
  pub changed : new ≡ record old { image = new.image; tree = with_object old.tree number (with_dataset (with_places places values)) }
  pub k : k_values new.image ≡ k_values old.image
  pub sound : IsSound old → IsSound new
  pub whole : IsWholeFile old → IsWholeFile new
  pub in_place : IsSound old
      → IsChangedInPlace old new (with_object old.tree number (with_dataset (with_places places values))) old.next (number ∷ []) 0

-- of the opened image the array of this number alone is another, which has these values in its selected cells
abbrev pub AreSelectedWritten : FileState → ℕ → Hyper → List ℤ → FileState → Type 0
AreSelectedWritten old number hyper values new =
    (d : Dataset) → dataset_of old.tree number ≡ Some d → AreValuesWritten old number (selection_of d.sizes (axes_of hyper)) values new

-- the write is made, where the number of the array is answered
abbrev pub IsWriteMade : FileState → List ℕ → Hyper → List ℤ → ℕ → FileState → Type 0
IsWriteMade f path hyper values number now =
    (e : Edited) → option_map (λ (o : ObjectNo). o.0) e.object ≡ Some number → e.refreshed ≡ 0 → IsEdited f (Write path hyper values) now e
