-- Where the entry of a name stands in a group, and the texts that it names (File Format Specification 3.0, sections III.B and III.C).
use Rattle.std.specs.Prelude.{◌≡◌, ℕ, Some, List, [], ◌∷◌, slice_get}
use Rattle.std.specs.List.{Contains}
use Rattle.h5_model.specs.Format.Addresses.{SymbolTable}
use Rattle.h5_model.specs.Format.Heap.{heap_header, segment_of, span_of}
use Rattle.h5_model.specs.Format.Symbols.{Entry}
use Rattle.h5_model.specs.Faults.TreeFaults.{all_entries}
use Rattle.h5_bytes.specs.Texts.{text_at}
use Rattle.h5_heap.specs.Edited.{HasReleased}
use Rattle.h5_space.specs.Space.{Space}
use Rattle.h5_btree.specs.declared.way.Step.{Step}
use Rattle.h5_snod.specs.Names.{entry_names}
use Rattle.h5_snod.specs.declared.entry.SymbolEntry.{SymbolEntry}
use Rattle.h5_snod.specs.declared.entry.SymbolTarget.{SymbolTarget}
use Rattle.h5_snod.specs.declared.entry.SymbolTarget.TheVariants as target
use Rattle.h5_group.specs.Edited.{node_below, offsets_of}
use Rattle.h5_group.specs.Nodes.Stands.{entries_at}
use Rattle.h5_group.specs.Told.{symbol_nodes_told}
use Rattle.h5_group.specs.Ways.{IsWayOf}
use Rattle.h5_group.specs.declared.edit.take.EntryPlace.{EntryPlace}

-- the way leads to the symbol node, which is one of the group's, and the entry with the index has the name
pub record IsEntryPlace (s : Space) (table : SymbolTable) (name : List ℕ) (place : EntryPlace) : Type 0 where
  pub way_of : IsWayOf s table name place.way
  pub below : (step : Step) (above : List Step) → place.way ≡ step ∷ above → place.node ≡ node_below s table step
  pub told : Contains (symbol_nodes_told s.bytes table) place.node
  pub named : slice_get (entry_names (segment_of s.bytes table.heap) (entries_at s.bytes place.node)) place.index ≡ Some name

-- the offsets of the texts that an entry names
abbrev pub offsets_named : SymbolEntry → List ℕ
offsets_named e = e.name ∷ text_in e.target where
  text_in : SymbolTarget → List ℕ
  text_in (target.Text text) = text ∷ []
  text_in (target.Header header) = []

-- the texts at these offsets of a heap become free, one after another
abbrev pub AreReleased : List ℕ → List ℕ → ℕ → List ℕ → Type 0
AreReleased old new heap [] = (heap_header new heap ≡ heap_header old heap) × (segment_of new heap ≡ segment_of old heap)
AreReleased old new heap (offset ∷ offsets) =
    (between : List ℕ) × HasReleased old between heap offset (span_of (segment_of old heap) offset).len × AreReleased between new heap offsets

-- the texts that this entry names become free in the group's heap, whose segment is the old one until then
abbrev pub HasTextsFreed : List ℕ → List ℕ → SymbolTable → Entry → Type 0
HasTextsFreed old new table e =
    (before : List ℕ) × (segment_of before table.heap ≡ segment_of old table.heap) × AreReleased before new table.heap (offsets_of e)

-- so do those of the group's entry of this name
abbrev pub HasNameFreed : List ℕ → List ℕ → SymbolTable → List ℕ → Type 0
HasNameFreed old new table name =
    (e : Entry) × Contains (all_entries old (symbol_nodes_told old table)) e × (text_at (segment_of old table.heap) e.name ≡ name) × HasTextsFreed old new table e
