-- Which of several faults of a group is named: the first one along the walk, through the heap, the tree, the texts and the order (File
-- Format Specification 3.0, sections III.A.1, III.B and III.D).
use Rattle.std.specs.Prelude.{◌≡◌, ℕ, ◌⊎◌, List, ◌++◌}
use Rattle.h5_bytes.specs.declared.Block.{Block}
use Rattle.h5_model.specs.Format.Addresses.{SymbolTable}
use Rattle.h5_model.specs.Format.Heap.{segment_of, heap_blocks}
use Rattle.h5_model.specs.Faults.TreeFaults.{all_entries}
use Rattle.h5_model.specs.declared.open_fault.Cause.{Cause}
use Rattle.h5_heap.specs.Refused.{IsHeapRefused, IsHeapReadable}
use Rattle.h5_btree.specs.Walk.Forms.{OfGroup}
use Rattle.h5_btree.specs.Walk.Followed.{IsTreeFault}
use Rattle.h5_btree.specs.Walk.Readable.{IsTreeReadable}
use Rattle.h5_group.specs.Texts.Named.{AreTexts}
use Rattle.h5_group.specs.Texts.Refused.{AreTextsRefused, IsFirstTextFault}
use Rattle.h5_group.specs.Order.Ordered.{IsOrderRefused}

-- what is claimed when the heap was read
abbrev pub with_heap : List ℕ → List Block → SymbolTable → List Block
with_heap image held table = heap_blocks image table.heap ++ held

-- the heap can be read, and then the tree
pub record AreBothReadable (image : List ℕ) (held : List Block) (table : SymbolTable) : Type 0 where
  pub heap : IsHeapReadable image table.heap held
  pub tree : IsTreeReadable image OfGroup table.tree (with_heap image held table)

-- the fault is the tree's: the heap can be read, and the tree cannot
pub record IsTreeFirst (image : List ℕ) (held : List Block) (table : SymbolTable) (cause : Cause) (address : ℕ) : Type 0 where
  pub heap : IsHeapReadable image table.heap held
  pub unreadable : IsTreeReadable image OfGroup table.tree (with_heap image held table) → ⊥
  pub refused : IsTreeFault image OfGroup (with_heap image held table) table.tree cause address

-- the fault is that of names, texts and keys, at the heap's header: both can be read
pub record AreTextsFirst (image : List ℕ) (held : List Block) (table : SymbolTable) (cause : Cause) (address : ℕ) : Type 0 where
  pub both : AreBothReadable image held table
  pub refused : (address ≡ table.heap) × AreTextsRefused image table cause
  pub first : IsFirstTextFault (segment_of image table.heap) (all_entries image (both.tree).leaves) cause

-- the fault is that of the order: both can be read, and names, texts and keys are sound
pub record IsOrderFirst (image : List ℕ) (held : List Block) (table : SymbolTable) (cause : Cause) (address : ℕ) : Type 0 where
  pub both : AreBothReadable image held table
  pub texts : AreTexts image (segment_of image table.heap) (both.heap).free (both.tree).nodes (both.tree).leaves
  pub refused : IsOrderRefused image table (both.tree).nodes (both.tree).leaves cause address

-- The cause at the address is the first fault of the group: of its heap; else of its tree; else of its names, texts and keys; else of its
-- order.
abbrev pub IsFirstGroupFault : List ℕ → List Block → SymbolTable → Cause → ℕ → Type 0
IsFirstGroupFault image held table cause address =
    IsHeapRefused image table.heap held cause address ⊎ (IsTreeFirst image held table cause address
    ⊎ (AreTextsFirst image held table cause address ⊎ IsOrderFirst image held table cause address))
