-- The fault of a group that is named is the first one along the walk.
use Rattle.std.proofs.Common.{◌≡◌, ℕ, ◌+◌, ◌-◌, inl, inr, List, length, ◌∙◌, sym, subst, arith}
use Rattle.h5_bytes.specs.Blocks.{cover, Separate, Inside}
use Rattle.h5_bytes.specs.declared.Block.{Block}
use Rattle.h5_bytes.proofs.BlockLaws.{all_so, cover-append}
use Rattle.h5_model.specs.Format.Addresses.{SymbolTable}
use Rattle.h5_model.specs.Format.Heap.{heap_header, segment_of, heap_blocks, IsHeap}
use Rattle.h5_model.specs.Format.Reached.{Named}
use Rattle.h5_model.specs.Faults.TreeFaults.{all_entries}
use Rattle.h5_model.specs.declared.open_fault.Cause.{Cause}
use Rattle.h5_model.specs.declared.open_fault.Cause.TheVariants.{NoMemory}
use Rattle.h5_heap.specs.Refused.{IsHeapReadable}
use Rattle.h5_header.specs.Walk.Walked.{IsFollowed}
use Rattle.h5_btree.specs.Walk.Forms.{OfGroup}
use Rattle.h5_btree.specs.Walk.Followed.{IsTreeMet, IsTreeFault}
use Rattle.h5_btree.specs.Walk.Readable.{IsTreeReadable}
use Rattle.h5_btree.specs.Walk.Trees.{IsTree}
use Rattle.h5_group.specs.Nodes.Trees.{group_nodes_blocks}
use Rattle.h5_group.specs.Texts.Named.{AreTexts}
use Rattle.h5_group.specs.Texts.Refused.{AreTextsRefused, IsFirstTextFault}
use Rattle.h5_group.specs.Order.Ordered.{IsOrderRefused}
use Rattle.h5_group.specs.FirstFault.{with_heap, AreBothReadable, IsFirstGroupFault}

-- a cause that is want of memory
abbrev IsMemory : Cause → Type 0
IsMemory NoMemory = Unit {0}
IsMemory _ = ⊥

-- a walk has met a tree, whichever blocks its claimed bytes are
met_by_cover : (image : List ℕ) (one other : List Block) → ((p : ℕ) → cover p other ≡ cover p one) → (followed : List Named) (field root heap depth : ℕ)
    → IsTreeMet image OfGroup one followed field root heap depth → IsTreeMet image OfGroup other followed field root heap depth
met_by_cover image one other same followed field root heap depth met = record {
  walked = record {
    all = all_so (IsFollowed image one) (IsFollowed image other) followed
        (λ (y : Named) f. record { reached = f.reached; behind = f.behind; stands = omega (arith, f.stands, same (y.field - 8)) }) (met.walked).all;
    covered = λ p. same p ∙ (met.walked).covered p;
  };
  met = record {
    reached = (met.met).reached;
    behind = (met.met).behind;
    stands = omega (arith, (met.met).stands, same (field - 8));
    fresh = (met.met).fresh;
  };
}

module _ (image : List ℕ) (table : SymbolTable) (held now free : List Block) (form : IsHeap (heap_header image table.heap) (segment_of image table.heap) free)
    (inside : Inside (length image) (heap_blocks image table.heap)) (claimed : (p : ℕ) → cover p now ≡ cover p held + cover p (heap_blocks image table.heap))
    (separate : Separate now) where
  abbrev heap_reads : IsHeapReadable image table.heap held
  heap_reads = record { free = free; has = form; inside = inside; separate = λ p. omega (arith, claimed p, separate p) }

  same : (p : ℕ) → cover p now ≡ cover p (with_heap image held table)
  same p = omega (arith, claimed p, cover-append p (heap_blocks image table.heap) held)

  refused_then : (cause : Cause) (address : ℕ) → IsTreeFault image OfGroup now table.tree cause address
      → IsTreeFault image OfGroup (with_heap image held table) table.tree cause address
  refused_then cause address fault followed field heap depth met =
      fault followed field heap depth (met_by_cover image (with_heap image held table) now same followed field table.tree heap depth met)

  readable_then : IsTreeReadable image OfGroup table.tree (with_heap image held table) → IsTreeReadable image OfGroup table.tree now
  readable_then r = record {
    nodes = r.nodes;
    leaves = r.leaves;
    has = r.has;
    inside = r.inside;
    separate = λ p. omega (arith, r.separate p, same p);
  }

  pub tree_first : (cause : Cause) (address : ℕ) → IsTreeFault image OfGroup now table.tree cause address
      → (IsTreeReadable image OfGroup table.tree now → cause ≡ NoMemory) → IsFirstGroupFault image held table cause address
  tree_first NoMemory address fault only = inl tt
  tree_first cause address fault only = inr (inl (record {
    heap = heap_reads;
    unreadable = λ r. subst IsMemory (sym (only (readable_then r))) tt;
    refused = refused_then cause address fault;
  }))

  module _ (nodes leaves : List ℕ) (tree : IsTree image OfGroup table.tree nodes leaves) (there : Inside (length image) (group_nodes_blocks image nodes leaves))
      (last : List Block) (more : (p : ℕ) → cover p last ≡ cover p now + cover p (group_nodes_blocks image nodes leaves)) (apart : Separate last) where
    abbrev both_read : AreBothReadable image held table
    both_read = record {
      heap = heap_reads;
      tree = record {
        nodes = nodes;
        leaves = leaves;
        has = tree;
        inside = there;
        separate = λ p. omega (arith, same p, more p, apart p);
      };
    }

    pub texts_first : (cause : Cause) (address : ℕ) → address ≡ table.heap → AreTextsRefused image table cause
        → IsFirstTextFault (segment_of image table.heap) (all_entries image leaves) cause → IsFirstGroupFault image held table cause address
    texts_first cause address e refused first = inr (inr (inl (record { both = both_read; refused = (e, refused); first = first })))

    pub order_first : (cause : Cause) (address : ℕ) → AreTexts image (segment_of image table.heap) free nodes leaves
        → IsOrderRefused image table nodes leaves cause address → IsFirstGroupFault image held table cause address
    order_first cause address texts refused = inr (inr (inr (record { both = both_read; texts = texts; refused = refused })))
