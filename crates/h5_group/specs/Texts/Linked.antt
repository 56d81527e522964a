-- The texts that the entries of symbol nodes name, and why they are refused (File Format Specification 3.0, sections III.B, III.C and
-- III.D).
use Rattle.std.specs.Prelude.{◌≡◌, ℕ, IsTrue, not, List, [], ◌∷◌, ◌++◌}
use Rattle.std.specs.List.{AllByRecursion, Contains, flat_map}
use Rattle.h5_bytes.specs.Texts.{text_at}
use Rattle.h5_model.specs.Tree.Paths.{is_name}
use Rattle.h5_model.specs.Format.Symbols.{Entry}
use Rattle.h5_model.specs.declared.open_fault.Cause.{Cause}
use Rattle.h5_model.specs.declared.open_fault.Cause.TheVariants.{HeapName, BadName}
use Rattle.h5_heap.specs.Spans.{IsSpan}
use Rattle.h5_snod.specs.Entries.{symbol_from}
use Rattle.h5_snod.specs.declared.entry.SymbolEntry.{SymbolEntry}
use Rattle.h5_snod.specs.declared.entry.SymbolTarget.{SymbolTarget}
use Rattle.h5_snod.specs.declared.entry.SymbolTarget.TheVariants.{Header, Text}
use Rattle.h5_group.specs.Nodes.Stands.{entries_at}

-- the offset of a soft link's text
abbrev pub text_of : SymbolTarget → List ℕ
text_of (Header header) = []
text_of (Text offset) = offset ∷ []

-- the offsets of a link's name and of its text
abbrev pub linked_from : SymbolEntry → List ℕ
linked_from symbol = symbol.name ∷ text_of symbol.target

abbrev pub linked_by : Entry → List ℕ
linked_by e = linked_from (symbol_from e)

-- those of all entries of the symbol node at an address
abbrev pub linked_at : List ℕ → ℕ → List ℕ
linked_at image at = flat_map linked_by (entries_at image at)

-- the name is one that a link may have
abbrev pub IsNamed : List ℕ → Entry → Type 0
IsNamed segment e = IsTrue (is_name (text_at segment e.name))

-- its name and its text stand in the heap, and the name is one that a link may have
pub record IsEntrySound (segment : List ℕ) (symbol : SymbolEntry) : Type 0 where
  pub stand : AllByRecursion (IsSpan segment) (linked_from symbol)
  pub named : IsTrue (is_name (text_at segment symbol.name))

abbrev pub AreEntriesSound : List ℕ → List Entry → Type 0
AreEntriesSound segment es = AllByRecursion (λ (e : Entry). IsEntrySound segment (symbol_from e)) es

-- The name or the text does not stand in the heap, and no name that stands there is bad; or the name stands in the heap, and a link may
-- not have it.
abbrev pub IsEntryRefused : List ℕ → SymbolEntry → Cause → Type 0
IsEntryRefused segment symbol HeapName = (offset : ℕ) × Contains (linked_from symbol) offset × (IsSpan segment offset → ⊥)
    × (IsSpan segment symbol.name → IsTrue (is_name (text_at segment symbol.name)))
IsEntryRefused segment symbol BadName = IsSpan segment symbol.name × IsTrue (not (is_name (text_at segment symbol.name)))
IsEntryRefused segment symbol _ = ⊥

-- the same of the first of these entries that is not sound
pub record AreEntriesRefused (segment : List ℕ) (es : List Entry) (cause : Cause) : Type 0 where
  pub before : List Entry
  pub entry : Entry
  pub after : List Entry
  pub parts : es ≡ before ++ entry ∷ after
  pub sound : AreEntriesSound segment before
  pub refused : IsEntryRefused segment (symbol_from entry) cause
