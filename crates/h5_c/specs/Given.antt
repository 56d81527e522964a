-- Edits as C gives them: paths and lists as they are, values as bytes of a type.
use Rattle.std.specs.Prelude.{◌≡◌, ◌==◌, ◌%◌, ℕ, Bool, true, false, Option, Some, None, Result, Err, MatchResult, List, length, map, if◌then◌else◌}
use Rattle.h5_model.specs.Format.Fixed.{Fixed, value_of}
use Rattle.h5_model.specs.Scripts.Answers.{stored_values}
use Rattle.h5_model.specs.declared.attribute.AttrSpec.{AttrSpec}
use Rattle.h5_model.specs.declared.dataset.Spec.{Spec}
use Rattle.h5_model.specs.declared.dataset.Store.{Store}
use Rattle.h5_model.specs.declared.dataset.Store.TheVariants as stored
use Rattle.h5_model.specs.declared.edits.Edit.{Edit}
use Rattle.h5_model.specs.declared.edits.Edit.TheVariants.{CreateDataset, SetAttr, Write}
use Rattle.h5_model.specs.declared.hyperslab.Hyper.{Hyper}
use Rattle.h5_c.specs.declared.given.Unmade.{Unmade}
use Rattle.h5_c.specs.declared.given.Unmade.TheVariants as unmade

abbrev pub number_of : Unmade → ℕ
number_of unmade.NoMemory = 31
number_of unmade.WrongRoom = 101
number_of unmade.NoSuchType = 102

-- the selection of four lists
abbrev pub given_selection : List ℕ → List ℕ → List ℕ → List ℕ → Hyper
given_selection start stride count block = record { start = start; stride = stride; count = count; block = block }

-- the bytes are a whole number of values of the type, or just one
abbrev pub is_whole : List ℕ → Fixed → Bool
is_whole bytes t = length bytes % t.size == 0

abbrev pub is_one : List ℕ → Fixed → Bool
is_one bytes t = length bytes == t.size

-- this was made, or memory was refused
abbrev pub IsMadeOf : {A : Type 0} → A → Result A Unmade → Type 0
IsMadeOf wanted made = MatchResult made (λ a. a ≡ wanted) (λ u. u ≡ unmade.NoMemory)

abbrev pub ByTest : Bool → Type 0 → Type 0 → Type 0
ByTest true passed failed = passed
ByTest false passed failed = failed

-- what holds where there is such a type, and the bytes are values of it; else what holds for the reason why not
abbrev pub IsMadeWith : Option Fixed → (Fixed → Bool) → (Fixed → Type 0) → (Unmade → Type 0) → Type 0
IsMadeWith None test holds refused = refused unmade.NoSuchType
IsMadeWith (Some t) test holds refused = ByTest (test t) (holds t) (refused unmade.WrongRoom)

-- an attribute whose values are given as bytes
abbrev pub given_attribute : List ℕ → Fixed → List ℕ → List ℕ → AttrSpec
given_attribute name t dims bytes = record { name = name; fixed = t; dims = dims; values = stored_values t bytes }

-- edits whose values are given as bytes
abbrev pub attribute_edit : List ℕ → List ℕ → Fixed → List ℕ → List ℕ → Edit
attribute_edit path name t dims bytes = SetAttr path (given_attribute name t dims bytes)

abbrev pub write_edit : List ℕ → Hyper → Fixed → List ℕ → Edit
write_edit path hyper t bytes = Write path hyper (stored_values t bytes)

-- a maximum as C gives it: 18446744073709551615 is unlimited
abbrev pub maximum_of : ℕ → Option ℕ
maximum_of m = if m == 18446744073709551615 then None else Some m

-- a form of storage as C names it: 1 compact, 2 contiguous, 3 in chunks of these sizes
abbrev pub store_of_number : ℕ → List ℕ → Option (Store (List ℕ))
store_of_number n chunks =
    if n == 1 then Some stored.Compact else if n == 2 then Some stored.Contiguous else if n == 3 then Some (stored.Chunked chunks) else None

-- there is such a form, and the list of its chunk sizes was made or memory was refused; or there is no such form
abbrev pub IsStoreMade : Option (Store (List ℕ)) → Result (Store (List ℕ)) Unmade → Type 0
IsStoreMade None made = made ≡ Err unmade.NoSuchType
IsStoreMade (Some store) made = IsMadeOf store made

-- an array of this type, these sizes and maxima, this storage and this fill
abbrev pub given_array : Fixed → List ℕ → List ℕ → Store (List ℕ) → List ℕ → Spec
given_array t dims maxima store fill = record { fixed = t; dims = dims; maxima = map maximum_of maxima; store = store; fill = value_of t fill }

-- the edit that creates it
abbrev pub array_edit : List ℕ → Fixed → List ℕ → List ℕ → Store (List ℕ) → List ℕ → Edit
array_edit path t dims maxima store fill = CreateDataset path (given_array t dims maxima store fill)

abbrev pub IsStorageThere : Option (Store (List ℕ)) → (Store (List ℕ) → Type 0) → (Unmade → Type 0) → Type 0
IsStorageThere None holds refused = refused unmade.NoSuchType
IsStorageThere (Some store) holds refused = holds store

-- what holds where there is such a type and such a storage, and the fill is one value; else what holds for the reason why not
abbrev pub IsArrayMadeWith : Option Fixed → List ℕ → Option (Store (List ℕ)) → (Fixed → Store (List ℕ) → Type 0) → (Unmade → Type 0) → Type 0
IsArrayMadeWith fixed fill store holds refused = IsMadeWith fixed (is_one fill) (λ t. IsStorageThere store (holds t) refused) refused
