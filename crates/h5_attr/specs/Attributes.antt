-- Attributes of an object by the messages of its header (File Format Specification 3.0, section IV.A.2.m).
use Rattle.std.specs.Prelude.{ℕ, nat_eq, nat_le, Bool, false, if◌then◌else◌, Option, Some, None, List, [], ◌∷◌, map}
use Rattle.std.specs.Option.{option_or, option_map_or}
use Rattle.std.specs.Ordering.{nat_cmp, eq_by_cmp}
use Rattle.std.specs.Cmp.Lexicographic.{slice_cmp, pointwise}
use Rattle.std.specs.List.{filter, filter_map, find, IsDistinct}
use Rattle.std.specs.FinMap.{from_entries}
use Rattle.h5_model.specs.Format.Limits.{most_cells}
use Rattle.h5_model.specs.Format.Messages.{Message}
use Rattle.h5_model.specs.Tree.Places.{extent_cells}
use Rattle.h5_model.specs.Format.AttributeBody.{attribute_of}
use Rattle.h5_model.specs.Tree.Objects.{Attribute, Attributes}
use Rattle.h5_model.specs.Format.Reads.{is_attribute_message}
use Rattle.h5_model.specs.declared.open_fault.Cause.{Cause}
use Rattle.h5_model.specs.declared.open_fault.Cause.TheVariants.{AttributeForm, TooLarge}

-- the name and the attribute of a message, where it is an attribute's and has the form
abbrev pub attribute_in : Message → Option (List ℕ × Attribute)
attribute_in m = if is_attribute_message m then attribute_of m.body else None

-- the attributes that have the form, with their names, in the order of the messages
abbrev pub attributes_in : List Message → List (List ℕ × Attribute)
attributes_in ms = filter_map (λ (m : Message). attribute_of m.body) (filter is_attribute_message ms)

-- their names
abbrev pub attribute_names_in : List Message → List (List ℕ)
attribute_names_in ms = map (λ a. a.0) (attributes_in ms)

-- no two of them are the same
abbrev pub HasNamesOnce : List Message → Type 0
HasNamesOnce ms = IsDistinct (eq_by_cmp (slice_cmp nat_cmp)) (attribute_names_in ms)

-- the first attribute of this name
abbrev pub attribute_named : List ℕ → List Message → Option (List ℕ × Attribute)
attribute_named name ms = find (λ a. pointwise nat_eq name a.0) (attributes_in ms)

-- a message has the attribute of this name
abbrev pub is_attribute_named : List ℕ → Message → Bool
is_attribute_named name m = option_map_or (λ (a : List ℕ × Attribute). pointwise nat_eq name a.0) (attribute_in m) false

-- the attributes by their names
abbrev pub attributes_of : List Message → Attributes
attributes_of ms = from_entries (attributes_in ms)

-- why an attribute message is refused
abbrev pub fault_of : Option (List ℕ × Attribute) → Option Cause
fault_of None = Some AttributeForm
fault_of (Some a) = if nat_le (extent_cells (a.1).sizes) most_cells then None else Some TooLarge

-- why a message is refused, where it is an attribute's
abbrev pub fault_in : Message → Option Cause
fault_in m = if is_attribute_message m then fault_of (attribute_of m.body) else None

-- the first fault
abbrev pub first_fault : List Message → Option Cause
first_fault [] = None
first_fault (m ∷ ms) = option_or (fault_in m) (first_fault ms)
