-- The selected cells of an array are stored where none lacks it.
use Rattle.std.proofs.Common.{◌≡◌, ℕ, List, true, false, not, sym, subst}
use Rattle.std.proofs.lemmas.Bool.{not-false}
use Rattle.h5_laws.proofs.Lists.{In, in_contains}
use Rattle.h5_layout.specs.Standing.{is_stored_cell}
use Rattle.h5_model.specs.Views.Selection.{Slab, selection_of}
use Rattle.h5_model.specs.Format.Described.{Described}
use Rattle.h5_laws.proofs.SoundLaws.NewPaths.{none_any}
use Rattle.h5_query.specs.Opened.State.{FileState}
use Rattle.h5_query.specs.Written.{IsArrayThere}
use Rattle.h5_layout.specs.Lacking.{lacks_cells}
use Rattle.h5_edit.specs.Stored.{AreSelectedStored}
use Rattle.h5_edit.proofs.ArraysThere.{one_there}
use Rattle.h5_edit.proofs.WrittenTrees.{sizes_are}

pub none_lacking : (f : FileState) (number : ℕ) (a : Described) → IsArrayThere f number a → (slab : Slab) → lacks_cells f.image a slab ≡ false → AreSelectedStored f number slab
none_lacking f number a there slab none d array place at b other =
    subst (λ (x : Described). is_stored_cell f.image x place ≡ true) (one_there f number a b there other)
    (not-false (is_stored_cell f.image a place)
    (none_any (λ p. not (is_stored_cell f.image a p)) (selection_of a.sizes slab) place none
    (subst (λ (sizes : List ℕ). In place (selection_of sizes slab)) (sym (sizes_are f number a there d array)) (in_contains place (selection_of d.sizes slab) at))))
