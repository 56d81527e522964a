-- The names, texts and keys of a group, by its tree and its heap (File Format Specification 3.0, sections III.A.1, III.B, III.C and
-- III.D).
use Rattle.std.specs.Prelude.{◌≡◌, ℕ, ◌+◌, ◌≤◌, IsTrue, List, [], map, length}
use Rattle.std.specs.List.{AllByRecursion}
use Rattle.h5_bytes.specs.Blocks.{cover}
use Rattle.h5_bytes.specs.Texts.{text_at}
use Rattle.h5_bytes.specs.declared.Block.{Block}
use Rattle.h5_model.specs.Tree.Paths.{is_name}
use Rattle.h5_model.specs.Format.Heap.{heap_header, segment_of, segment_block, IsHeap, HasNames}
use Rattle.h5_model.specs.Format.Nodes.{node_at}
use Rattle.h5_model.specs.Format.Symbols.{Entry, texts_of}
use Rattle.h5_model.specs.Format.Links.{key_offsets}
use Rattle.h5_model.specs.Faults.TreeFaults.{all_entries}
use Rattle.h5_heap.specs.Kept.{HeapState}
use Rattle.h5_group.specs.Nodes.Trees.{kind_in}

-- The entries of these symbol nodes have names that a link may have; and the spans of names, soft link texts, keys of these nodes, and
-- free blocks are separate.
pub record AreTexts (image : List ℕ) (segment : List ℕ) (free : List Block) (nodes symbol_nodes : List ℕ) : Type 0 where
  pub named : AllByRecursion (λ (e : Entry). IsTrue (is_name (text_at segment e.name))) (all_entries image symbol_nodes)
  pub loose : List ℕ
  pub spans : HasNames segment free (map (λ (e : Entry). e.name) (all_entries image symbol_nodes)) (texts_of (all_entries image symbol_nodes))
      (key_offsets (node_at image (kind_in image)) nodes) loose

-- the heap at this address was read, and no text of it was taken
pub record IsFreshHeap (image : List ℕ) (at : ℕ) (heap : HeapState) : Type 0 where
  pub at_is : heap.at ≡ at
  pub segment : heap.segment ≡ segment_block image at
  pub read : IsHeap (heap_header image at) (segment_of image at) heap.free
  pub inside : heap.segment.at + heap.segment.len ≤ length image
  pub held : (p : ℕ) → cover p heap.held ≡ cover p heap.free
  pub taken : heap.taken ≡ []
