-- Why the names, texts and keys of a group are refused, at its heap's header, and which of several faults is named (File Format
-- Specification 3.0, sections III.A.1 and III.D).
use Rattle.std.specs.Prelude.{◌≡◌, ◌≢◌, ℕ, ◌⊎◌, List}
use Rattle.h5_bytes.specs.Bytes.{byte_at}
use Rattle.h5_model.specs.Format.Addresses.{SymbolTable}
use Rattle.h5_model.specs.Format.Symbols.{Entry}
use Rattle.h5_model.specs.Faults.TreeFaults.{HeapNameBreach, BadNameBreach}
use Rattle.h5_model.specs.declared.open_fault.Cause.{Cause}
use Rattle.h5_model.specs.declared.open_fault.Cause.TheVariants.{HeapName, BadName, NoMemory}
use Rattle.h5_group.specs.Texts.Linked.{AreEntriesSound, AreEntriesRefused}

abbrev pub AreTextsRefused : List ℕ → SymbolTable → Cause → Type 0
AreTextsRefused image table NoMemory = Unit {0}
AreTextsRefused image table HeapName = HeapNameBreach image table.tree table.heap
AreTextsRefused image table BadName = BadNameBreach image table.tree table.heap
AreTextsRefused image table _ = ⊥

-- These are the entries of the group. A bad name is named only where the heap has the empty name, and all entries before it are sound.
-- Else the empty name is missed, or the first entry that is not sound has no text where one should be, or all entries are sound: then
-- spans are not separate, or a key names no text.
abbrev pub IsFirstTextFault : List ℕ → List Entry → Cause → Type 0
IsFirstTextFault segment es NoMemory = Unit {0}
IsFirstTextFault segment es BadName = (byte_at segment 0 ≡ 0) × AreEntriesRefused segment es BadName
IsFirstTextFault segment es HeapName =
    (byte_at segment 0 ≢ 0) ⊎ (AreEntriesRefused segment es HeapName ⊎ AreEntriesSound segment es)
IsFirstTextFault segment es _ = ⊥
