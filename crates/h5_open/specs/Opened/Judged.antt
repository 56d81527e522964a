-- What the messages of a group, and of an array, have to be (File Format Specification 3.0, section IV.A.2).
use Rattle.std.specs.Prelude.{◌≡◌, ℕ, ◌⊎◌, is_none, if◌then◌else◌, Option, Some, None, List, option_and_then}
use Rattle.std.specs.Option.{option_or}
use Rattle.h5_model.specs.Format.Addresses.{SymbolTable, symbol_table_of}
use Rattle.h5_model.specs.Format.MessageTypes.{symbol_table_kind}
use Rattle.h5_model.specs.Format.Messages.{Message, count_of, first_body}
use Rattle.h5_model.specs.Format.Reads.{HasAttributes}
use Rattle.h5_model.specs.Format.Described.{HasArray}
use Rattle.h5_model.specs.Faults.HeaderFaults.{HasNameTwice, ListBreach}
use Rattle.h5_model.specs.declared.open_fault.Cause.{Cause}
use Rattle.h5_model.specs.declared.open_fault.Cause.TheVariants.{DuplicateMessage, HeapForm, MissingMessage, NoMemory}
use Rattle.h5_header.specs.Kinds.{IsOfGroup, IsOfDataset}
use Rattle.h5_attr.specs.Attributes.{HasNamesOnce, attributes_of, first_fault}
use Rattle.h5_layout.specs.Judged.{breach_in}
use Rattle.h5_layout.specs.Told.{array_told}

-- messages of a group, with this tree and heap, and attributes
pub record IsGroupList (ms : List Message) (table : SymbolTable) : Type 0 where
  pub kinds : IsOfGroup ms
  pub attributes : HasAttributes ms (attributes_of ms)
  pub chosen : option_and_then symbol_table_of (first_body symbol_table_kind ms) ≡ Some table

-- messages of an array, with attributes
pub record IsArrayList (ms : List Message) : Type 0 where
  pub kinds : IsOfDataset ms
  pub attributes : HasAttributes ms (attributes_of ms)
  pub array : HasArray ms (array_told ms)

-- the root's header is no group's, as it has no Symbol Table; or a rule on all messages of a header is broken
abbrev pub IsKindBreach : List ℕ → ℕ → ℕ → List Message → Cause → Type 0
IsKindBreach image header depth ms cause =
    ((depth ≡ 0) × (cause ≡ MissingMessage) × (count_of symbol_table_kind ms ≡ 0)) ⊎ ListBreach image header ms cause

-- memory was short, or a rule on all messages of a header is broken
abbrev pub IsBodiesBreach : List ℕ → ℕ → List Message → Cause → Type 0
IsBodiesBreach image header ms NoMemory = Unit {0}
IsBodiesBreach image header ms cause = ListBreach image header ms cause

-- the Symbol Table has no room for two addresses
abbrev pub table_breach : List Message → Option Cause
table_breach ms = if is_none (option_and_then symbol_table_of (first_body symbol_table_kind ms)) then Some HeapForm else None

-- the first rule that the bodies of a group's messages break, if they break one: of the attributes, the Symbol Table
abbrev pub group_breach : List Message → Option Cause
group_breach ms = option_or (first_fault ms) (table_breach ms)

-- the same of an array: of its sizes, type, fill values and layout, of the attributes
abbrev pub array_breach : List Message → Option Cause
array_breach ms = option_or (breach_in ms) (first_fault ms)

-- memory was short, or what is named comes first: two attributes of one name, and else what is wrong with the bodies
abbrev pub IsFirstBreach : List Message → Option Cause → Cause → Type 0
IsFirstBreach ms bodies cause = (cause ≡ NoMemory)
    ⊎ (((cause ≡ DuplicateMessage) × HasNameTwice ms) ⊎ (HasNamesOnce ms × (bodies ≡ Some cause)))
