-- What is known of a group and of a way in it before a full symbol node is cut in two, and after it (File Format Specification 3.0, sections
-- III.A.1 and III.B).
use Rattle.std.proofs.Common.{◌≡◌, ℕ, suc, ◌^◌, ◌<◌, List, [], ◌∷◌, ◌++◌, length, get_or, take, drop, sym, ap, ◌∙◌, subst, arith}
use Rattle.std.specs.List.{AllByRecursion}
use Rattle.h5_bytes.specs.Blocks.{Inside}
use Rattle.h5_bytes.specs.declared.Block.{Block}
use Rattle.h5_bytes.proofs.BlockLaws.{cover-append}
use Rattle.h5_model.specs.Format.Addresses.{SymbolTable}
use Rattle.h5_model.specs.Format.Superblock.{leaf_k}
use Rattle.h5_model.specs.Format.Heap.{heap_blocks, segment_of}
use Rattle.h5_model.specs.Format.Nodes.{Kind, node_at}
use Rattle.h5_model.specs.Format.Rows.{Node}
use Rattle.h5_model.specs.Format.Symbols.{Entry, Target, symbol_block}
use Rattle.h5_space.specs.Space.{Space}
use Rattle.h5_space.specs.Whole.{IsApart}
use Rattle.h5_btree.specs.Insertion.{IsFullWay}
use Rattle.h5_btree.specs.Removal.{EndsInTree, EndsSomewhere}
use Rattle.h5_btree.specs.declared.way.Step.{Step}
use Rattle.h5_group.specs.Edited.{IsGroupIn}
use Rattle.h5_group.specs.Nodes.Trees.{kind_in}
use Rattle.h5_group.specs.Split.{AreHalves}
use Rattle.h5_group.proofs.EntryFrames.{parted, rest, written}
use Rattle.h5_group.proofs.EntryWays.{below_kept, end_cut, ends_own}
use Rattle.h5_group.proofs.SplitFrames.{heap_inside, nodes_kept, segment_kept}
use Rattle.h5_group.proofs.SplitOrder.{ends_then}

module _ (s : Space) (table : SymbolTable) (links : List (List ℕ × Target)) (spare : List ℕ) (blocks : List Block) (group : IsGroupIn s table links spare blocks)
    (level : ℕ) (way : List Step) (owned list : List ℕ) (k : ℕ) (w : EndsInTree s (kind_in s.bytes) table.tree level way owned list k) (node : ℕ)
    (at_end : (step : Step) (above : List Step) → way ≡ step ∷ above → node ≡ get_or (node_at s.bytes (kind_in s.bytes) step.node).children step.place 0) where
  abbrev l : ℕ
  l = leaf_k s.bytes

  abbrev kind : Kind
  kind = kind_in s.bytes

  abbrev own : List ℕ
  own = (group.linked).owned

  abbrev listed : List ℕ
  listed = (group.linked).symbol_nodes

  ends : EndsInTree s kind table.tree (group.linked).level way own listed k
  ends = ends_own s table links spare blocks group level way owned list k w

  abbrev end_node : ℕ
  end_node = get_or (node_at s.bytes kind (ends.step).node).children (ends.step).place 0

  here : node ≡ end_node
  here = at_end ends.step ends.above ends.way_is

  cut : listed ≡ take k listed ++ end_node ∷ drop (suc k) listed
  cut = end_cut s kind table.tree (group.linked).level way own listed k ends

  -- the symbol node shares no byte with a free block
  pub node_apart : IsApart (symbol_block (leaf_k s.bytes) node ∷ []) s.free (length s.bytes)
  node_apart = subst (λ (n : ℕ). IsApart (symbol_block l n ∷ []) s.free (length s.bytes)) (sym here)
      (λ p. omega (
        arith,
        group.apart p,
        parted s s table links spare blocks group end_node (take k listed) (drop (suc k) listed) cut p,
        cover-append p (written s s table links spare blocks group end_node (take k listed) (drop (suc k) listed) cut)
            (rest s s table links spare blocks group end_node (take k listed) (drop (suc k) listed) cut),
      ))

  module _ (u : Space) (new : ℕ) (left right : List Entry) (halves : AreHalves s u (leaf_k s.bytes) node new left right) (short : length u.bytes < 2 ^ 64) where
    halves_there : AreHalves s u l end_node new left right
    halves_there = subst (λ (n : ℕ). AreHalves s u l n new left right) here halves

    pub ends_behind : EndsSomewhere u (kind_in s.bytes) way
    ends_behind = (table.tree, (group.linked).level, own, listed, k, ends_then s u u table links spare blocks group way k ends new left right halves_there short)

    pub heap_behind : Inside (length u.bytes) (heap_blocks u.bytes table.heap)
    heap_behind = heap_inside s u table links spare blocks group end_node new (take k listed) (drop (suc k) listed) cut left right halves_there

    pub segment_behind : segment_of u.bytes table.heap ≡ segment_of s.bytes table.heap
    segment_behind = segment_kept s u table links spare blocks group end_node new (take k listed) (drop (suc k) listed) cut left right halves_there

    full_again : (steps : List Step) → AllByRecursion (λ (step : Step). node_at u.bytes kind step.node ≡ node_at s.bytes kind step.node) steps → IsFullWay u.bytes kind steps
        → IsFullWay s.bytes kind steps
    full_again [] same full = tt
    full_again (step ∷ steps) same full = (sym (ap (λ (o : Node). length o.children) same.0) ∙ full.0, full_again steps same.1 full.1)

    pub full_before : IsFullWay u.bytes (kind_in s.bytes) way → IsFullWay s.bytes (kind_in s.bytes) way
    full_before = full_again way (below_kept s kind table.tree (group.linked).level way own listed k ends u
        (nodes_kept s u table links spare blocks group end_node new (take k listed) (drop (suc k) listed) cut left right halves_there))
