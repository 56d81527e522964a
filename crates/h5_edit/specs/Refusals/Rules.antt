-- The rules of the paths of an edit by their faults, and the rules that a target, an attribute or an array alone decides.
use Rattle.std.specs.Prelude.{◌≡◌, ℕ, ℤ, ◌*◌, ◌==◌, ◌&&◌, ◌||◌, Bool, false, not, nat_lt, nat_le, if◌then◌else◌, is_none, is_some, Option, Some, None, List, [], ◌∷◌, length}
use Rattle.std.specs.List.{list_all}
use Rattle.std.specs.Option.{option_map_or}
use Rattle.h5_model.specs.Format.Messages.{most_body_bytes}
use Rattle.h5_model.specs.Edits.EditFaults.{fault_number}
use Rattle.h5_model.specs.Format.Fixed.{Fixed, fits}
use Rattle.h5_model.specs.Format.Limits.{most_cells, most_dimensions, most_hard_links, most_name_bytes, most_numbers}
use Rattle.h5_model.specs.Tree.Places.{cells, extent_cells}
use Rattle.h5_model.specs.Format.Sizes.{attribute_size}
use Rattle.h5_model.specs.Tree.Objects.{Tree, ToObject, links_of, hard_links}
use Rattle.h5_model.specs.Tree.Paths.{names_of, location_of, parent_at}
use Rattle.h5_model.specs.Views.Selection.{axes_of, selected_cells}
use Rattle.h5_model.specs.Edits.Refusal.{is_deep, is_root, has_no_parent, has_no_group, is_missing, is_here, is_soft, last_is_long, is_no_text, are_maxima, is_store, chunk_is_large, compact_is_large}
use Rattle.h5_model.specs.declared.attribute.AttrSpec.{AttrSpec}
use Rattle.h5_model.specs.declared.dataset.Spec.{Spec}
use Rattle.h5_model.specs.declared.edit_fault.EditFault.{EditFault}
use Rattle.h5_model.specs.declared.edit_fault.EditFault.TheVariants as fault
use Rattle.h5_model.specs.declared.hyperslab.Hyper.{Hyper}
use Rattle.h5_query.specs.Opened.Sound.{IsObjectOf}
use Rattle.h5_query.specs.Opened.State.{FileState}
use Rattle.h5_query.specs.Place.{PathLeadsTo}
use Rattle.h5_edit.specs.declared.rules.place.NewPlace.{NewPlace}
use Rattle.h5_edit.specs.declared.rules.place.ObjectAt.{ObjectAt}

-- ---- paths

-- the faults of paths and of new names, in the order of their numbers
abbrev pub path_faults : List EditFault
path_faults = fault.BadPath ∷ fault.PathTooDeep ∷ fault.IsRoot ∷ fault.NoSuchParent ∷ fault.NotAGroup ∷ fault.NotFound ∷ fault.AlreadyThere ∷ fault.NameTooLong ∷ []

-- the first of the faults whose rule holds
abbrev pub first_of : List EditFault → (EditFault → Bool) → Option EditFault
first_of [] holds = None
first_of (f ∷ fs) holds = if holds f then Some f else first_of fs holds

abbrev pub path_fault : (EditFault → Bool) → Option EditFault
path_fault holds = first_of path_faults holds

-- the rules of the path of a new link
abbrev pub is_new_fault : Tree → List ℕ → EditFault → Bool
is_new_fault tree path fault.BadPath = is_none (names_of path)
is_new_fault tree path fault.PathTooDeep = is_deep path
is_new_fault tree path fault.IsRoot = is_root path
is_new_fault tree path fault.NoSuchParent = has_no_parent (location_of tree path)
is_new_fault tree path fault.NotAGroup = has_no_group (location_of tree path)
is_new_fault tree path fault.AlreadyThere = is_here (location_of tree path)
is_new_fault tree path fault.NameTooLong = option_map_or last_is_long (names_of path) false
is_new_fault tree path _ = false

-- the rules of a path at which an object has to stand
abbrev pub is_object_fault : Tree → List ℕ → EditFault → Bool
is_object_fault tree path fault.BadPath = is_none (names_of path)
is_object_fault tree path fault.PathTooDeep = is_deep path
is_object_fault tree path fault.NoSuchParent = has_no_parent (location_of tree path)
is_object_fault tree path fault.NotAGroup = has_no_group (location_of tree path)
is_object_fault tree path fault.NotFound = is_missing (location_of tree path) || is_soft (location_of tree path)
is_object_fault tree path _ = false

-- the rules of the text of a soft link
abbrev pub is_text_fault : List ℕ → EditFault → Bool
is_text_fault text fault.BadPath = is_no_text text
is_text_fault text fault.NameTooLong = nat_lt most_name_bytes (length text)
is_text_fault text _ = false

-- the fault with the lower number
abbrev pub lower_fault : EditFault → EditFault → EditFault
lower_fault a b = if nat_le (fault_number a) (fault_number b) then a else b

abbrev pub lower_of : Option EditFault → Option EditFault → Option EditFault
lower_of None b = b
lower_of (Some a) None = Some a
lower_of (Some a) (Some b) = Some (lower_fault a b)

-- no rule refuses the path of a new link, which is to stand here
pub record IsFreePlace (tree : Tree) (path : List ℕ) (p : NewPlace) : Type 0 where
  pub allowed : path_fault (is_new_fault tree path) ≡ None
  pub parent : parent_at tree path ≡ Some (p.parent, p.name.now)

abbrev pub IsNotFree : Tree → List ℕ → EditFault → Type 0
IsNotFree tree path e = path_fault (is_new_fault tree path) ≡ Some e

-- this object stands at the path
pub record IsObject (f : FileState) (path : List ℕ) (o : ObjectAt) : Type 0 where
  pub leads : PathLeadsTo f.tree path (ToObject o.number)
  pub kept : IsObjectOf f o.number o.object.now
  pub image : o.image.now.bytes ≡ f.image

-- ---- what an edit alone decides, in the order of the numbers

-- the target of a hard link
abbrev pub target_rules : Tree → ℕ → List (EditFault × Bool)
target_rules tree number =
    (fault.GroupLink, is_some (links_of tree number))
    ∷ (fault.TooManyLinks, nat_le most_hard_links (hard_links tree number))
    ∷ []

-- a new attribute (section IV.A.2.m)
abbrev pub own_rules : AttrSpec → List (EditFault × Bool)
own_rules a =
    (fault.NameTooLong, nat_lt most_name_bytes (length a.name))
    ∷ (fault.BadSpec, nat_lt most_dimensions (length a.dims) || is_no_text a.name)
    ∷ (fault.TooManyCells, nat_lt most_cells (extent_cells a.dims))
    ∷ (fault.ValueCount, not (length a.values == cells a.dims))
    ∷ (fault.ValueRange, not (list_all (fits a.fixed) a.values))
    ∷ (fault.AttributeTooLarge, nat_lt most_body_bytes (attribute_size (length a.name) a.dims (a.fixed).size))
    ∷ []

-- a new array
abbrev pub spec_rules : Spec → List (EditFault × Bool)
spec_rules s =
    (fault.BadSpec, nat_lt most_dimensions (length s.dims) || not (are_maxima s.dims s.maxima && is_store s.store s.dims s.maxima))
    ∷ (fault.ChunkTooLarge, chunk_is_large s.store (s.fixed).size)
    ∷ (fault.CompactTooLarge, compact_is_large s.store (cells s.dims * (s.fixed).size))
    ∷ (fault.TooManyCells, nat_lt most_cells (extent_cells s.dims))
    ∷ (fault.ValueRange, not (fits s.fixed s.fill))
    ∷ []

-- values for so many cells of an array of this type
abbrev pub counted_rules : Fixed → ℕ → List ℤ → List (EditFault × Bool)
counted_rules fixed cells values =
    (fault.ValueCount, not (length values == cells))
    ∷ (fault.ValueRange, not (list_all (fits fixed) values))
    ∷ []

-- and for the selected cells
abbrev pub value_rules : Fixed → Hyper → List ℤ → List (EditFault × Bool)
value_rules fixed hyper values = counted_rules fixed (selected_cells (axes_of hyper)) values

-- a new object
abbrev pub number_rules : ℕ → List (EditFault × Bool)
number_rules next = (fault.TooManyObjects, nat_le most_numbers next) ∷ []
