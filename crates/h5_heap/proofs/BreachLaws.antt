-- A text that is refused is a breach of the heap's names, whose address is the heap's.
use Rattle.std.proofs.Common.{◌≡◌, ℕ, List, ◌++◌, map, sym, subst}
use Rattle.std.specs.List.{Contains}
use Rattle.h5_bytes.specs.Bytes.{part}
use Rattle.h5_bytes.specs.Blocks.{cover}
use Rattle.h5_bytes.specs.declared.Block.{Block}
use Rattle.h5_model.specs.Format.Heap.{heap_header, segment_block, segment_of, IsHeap, HasNames}
use Rattle.h5_model.specs.Format.Symbols.{Entry, texts_of}
use Rattle.h5_model.specs.Faults.TreeFaults.{HasSymbolNodes, all_entries, all_key_offsets, HeapNameBreach}
use Rattle.h5_model.specs.declared.open_fault.Cause.TheVariants.{HeapName}
use Rattle.h5_heap.specs.Kept.{HeapState, segment_in}
use Rattle.h5_heap.specs.Spans.{IsSpan, IsNotEmpty}
use Rattle.h5_heap.proofs.RefusedLaws.{begin_refused, name_refused}

-- a group's tree has these symbol nodes, and its heap was read
module _ (image : List ℕ) (root at : ℕ) (symbol_nodes : List ℕ) (has : HasSymbolNodes image root symbol_nodes) (heap : HeapState)
    (place : heap.segment ≡ segment_block image at) (read : IsHeap (heap_header image at) (segment_of image at) heap.free) where
  -- the offsets of the links' names and texts
  abbrev offsets : List ℕ
  offsets = map (λ (e : Entry). e.name) (all_entries image symbol_nodes) ++ texts_of (all_entries image symbol_nodes)

  abbrev IsSound : List ℕ → Type 0
  IsSound loose = HasNames (segment_in image heap) heap.free (map (λ (e : Entry). e.name) (all_entries image symbol_nodes))
      (texts_of (all_entries image symbol_nodes)) (all_key_offsets image root) loose

  breach : ((loose : List ℕ) → IsSound loose → ⊥) → HeapNameBreach image root at
  breach none = (
    symbol_nodes,
    has,
    heap.free,
    read,
    λ loose sound. none loose (subst (λ (b : Block). HasNames (part b.at b.len image) heap.free
        (map (λ (e : Entry). e.name) (all_entries image symbol_nodes)) (texts_of (all_entries image symbol_nodes)) (all_key_offsets image root) loose) (sym place) sound),
  )

  pub begin_breach : ((p : ℕ) → cover p heap.held ≡ cover p heap.free) → IsNotEmpty (segment_in image heap) heap.held HeapName → HeapNameBreach image root at
  begin_breach covered refused = breach (λ loose sound. begin_refused _ heap _ _ _ loose sound covered refused)

  pub name_breach : (offset : ℕ) → Contains offsets offset → (IsSpan (segment_in image heap) offset → ⊥) → HeapNameBreach image root at
  name_breach offset there refused = breach (λ loose sound. name_refused _ heap _ _ _ loose sound offset there refused)
