-- The symbol node to which a way leads, and what its going makes, by any account of the tree in which the way ends.
use Rattle.std.proofs.Common.{◌≡◌, ℕ, zero, suc, ◌+◌, ◌*◌, ◌<◌, ◌≤◌, List, [], ◌∷◌, length, get_or, sym, ap, ◌∙◌, subst, Some}
use Rattle.std.specs.Prelude.{slice_get}
use Rattle.std.specs.List.{Contains, remove}
use Rattle.h5_bytes.specs.Blocks.{cover, holds}
use Rattle.h5_bytes.specs.declared.Block.{Block}
use Rattle.h5_model.specs.Format.Addresses.{SymbolTable}
use Rattle.h5_model.specs.Format.Superblock.{leaf_k}
use Rattle.h5_model.specs.Format.Heap.{heap_header, segment_of}
use Rattle.h5_model.specs.Format.Nodes.{Kind, IsNode, node_bytes}
use Rattle.h5_model.specs.Format.Symbols.{Target, symbols_at}
use Rattle.h5_model.proofs.RowLaws.{at_listed}
use Rattle.h5_laws.proofs.Lists.{In, all_in, contains_in}
use Rattle.h5_space.specs.Space.{Space}
use Rattle.h5_space.proofs.AddressLaws.{all_at}
use Rattle.h5_btree.specs.Removal.{EndsInTree, IsTakenAlong}
use Rattle.h5_btree.specs.Walk.Forms.{OfGroup}
use Rattle.h5_btree.specs.Walk.Stands.{IsNodeAt}
use Rattle.h5_btree.specs.declared.way.Step.{Step}
use Rattle.h5_btree.proofs.ClimbSteps.{inside_of_apart}
use Rattle.h5_btree.proofs.WayEnds.{end_listed}
use Rattle.h5_btree.proofs.WaySteps.{first_owned}
use Rattle.h5_group.specs.Edited.{HasGroupMoved, IsGroupIn, entries_below, node_below}
use Rattle.h5_group.specs.Exact.{AreFilledBut, AreGroupKeys, HasExactKeys}
use Rattle.h5_group.specs.Nodes.Trees.{kind_in}
use Rattle.h5_group.specs.Told.{symbol_nodes_told}
use Rattle.h5_group.proofs.DropExact.{node_dropped_exact}
use Rattle.h5_group.proofs.DropLaws.{heaps, node_dropped, node_held, node_inside, segment_same}
use Rattle.h5_group.proofs.EntryWays.{ends_own}
use Rattle.h5_group.proofs.ToldLaws.{symbol_nodes_are_told}

-- what stands at a place
pub got : (xs : List ℕ) (i y : ℕ) → slice_get xs i ≡ Some y → get_or xs i 0 ≡ y
got [] i y is = cc
got (x ∷ xs) zero y is = cc
got (x ∷ xs) (suc i) y is = got xs i y is

-- the node at the end of a way stands in the image
pub end_stands : (s : Space) (table : SymbolTable) (level : ℕ) (way : List Step) (owned list : List ℕ) (k : ℕ) (e : EndsInTree s (kind_in s.bytes) table.tree level way owned list k)
    → IsNodeAt s.bytes OfGroup e.step.node
end_stands s table level way owned list k e =
    let listed = first_owned s (kind_in s.bytes) table.tree level way owned list k e in
    record {
      formed = at_listed (λ n. IsNode (kind_in s.bytes) (node_bytes s.bytes (kind_in s.bytes) n)) owned e.step.node e.tree.formed listed;
      inside = inside_of_apart s (kind_in s.bytes) owned e.apart e.step.node listed;
    }

module _ (s : Space) (table : SymbolTable) (links : List (List ℕ × Target)) (spare : List ℕ) (blocks : List Block) (group : IsGroupIn s table links spare blocks)
    (level : ℕ) (way : List Step) (owned list : List ℕ) (k : ℕ) (e : EndsInTree s (kind_in s.bytes) table.tree level way owned list k) where
  abbrev kind : Kind
  kind = kind_in s.bytes

  abbrev own_list : List ℕ
  own_list = (group.linked).symbol_nodes

  -- the tree is the group's
  pub own_way : EndsInTree s kind table.tree (group.linked).level way (group.linked).owned own_list k
  own_way = ends_own s table links spare blocks group level way owned list k e

  own_end : (k < length own_list) × (get_or own_list k 0 ≡ node_below s table own_way.step)
  own_end = end_listed s kind table.tree (group.linked).level way (group.linked).owned own_list k own_way

  -- the symbol node to which the way leads is one of the group's
  pub end_told : (node : ℕ) → ((step : Step) (above : List Step) → way ≡ step ∷ above → node ≡ node_below s table step) → Contains (symbol_nodes_told s.bytes table) node
  end_told node is =
      let at : get_or own_list k 0 ≡ node = own_end.1 ∙ sym (is own_way.step own_way.above own_way.way_is) in
      let there : In (get_or own_list k 0) own_list = all_at (λ n. In n own_list) own_list k 0 (all_in (λ n. In n own_list) own_list (λ n in_it. in_it)) own_end.0 in
      contains_in node (symbol_nodes_told s.bytes table)
      (subst (In node) (symbol_nodes_are_told s.bytes table links blocks group.linked) (subst (λ n. In n own_list) at there))

  -- what is known where it was taken out of the tree
  module _ (u : Space) (tree_kind : Kind) (kind_is : tree_kind ≡ kind)
      (takes : (root level k : ℕ) (owned list : List ℕ) → EndsInTree s tree_kind root level way owned list k → IsTakenAlong s u tree_kind root way (remove list k) owned)
      (node leaf : ℕ) (node_is : (step : Step) (above : List Step) → way ≡ step ∷ above → node ≡ node_below s table step) (leaf_is : leaf ≡ leaf_k s.bytes) where
    abbrev Takes : Kind → Type 0
    Takes any = (root level k : ℕ) (owned list : List ℕ) → EndsInTree s any root level way owned list k → IsTakenAlong s u any root way (remove list k) owned

    taken : IsTakenAlong s u kind table.tree way (remove own_list k) (group.linked).owned
    taken = subst Takes kind_is takes table.tree (group.linked).level k (group.linked).owned own_list own_way

    at_end : get_or own_list k 0 ≡ node
    at_end = own_end.1 ∙ sym (node_is own_way.step own_way.above own_way.way_is)

    abbrev IsThere : ℕ → ℕ → Type 0
    IsThere n l = n + (8 + 80 * l) ≤ length u.bytes

    pub block_inside : node + (8 + 80 * leaf) ≤ length u.bytes
    block_inside = subst (IsThere node) (sym leaf_is) (subst (λ n. IsThere n (leaf_k s.bytes)) at_end (node_inside s u table links spare blocks group way k own_way taken))

    abbrev IsFreeOf : ℕ → ℕ → Type 0
    IsFreeOf n l = (p : ℕ) → cover p u.free + holds p n (8 + 80 * l) ≤ 1

    pub block_held : (p : ℕ) → cover p u.free + holds p node (8 + 80 * leaf) ≤ 1
    block_held = subst (IsFreeOf node) (sym leaf_is) (subst (λ n. IsFreeOf n (leaf_k s.bytes)) at_end (node_held s u table links spare blocks group way k own_way taken))

    pub segment_stays : segment_of u.bytes table.heap ≡ segment_of s.bytes table.heap
    segment_stays = segment_same s u table links spare blocks group way k own_way taken

    pub header_stays : heap_header u.bytes table.heap ≡ heap_header s.bytes table.heap
    header_stays = (heaps s u table links spare blocks group way k own_way taken).0

    module _ (t : Space) where
      abbrev IsGiven : ℕ → ℕ → Type 0
      IsGiven n l = (p : ℕ) → cover p t.free ≡ cover p u.free + holds p n (8 + 80 * l)

      pub group_stays : t.bytes ≡ u.bytes → IsGiven node leaf → ((step : Step) (above : List Step) → way ≡ step ∷ above → entries_below s table step ≡ [])
          → length u.bytes ≤ length s.bytes → HasGroupMoved s t table blocks links spare
      group_stays bytes given empty size =
          node_dropped s u table links spare blocks group way k own_way taken t bytes (subst (λ n. IsGiven n (leaf_k s.bytes)) (sym at_end) (subst (IsGiven node) leaf_is given))
          (ap (symbols_at s.bytes (leaf_k s.bytes)) own_end.1 ∙ empty own_way.step own_way.above own_way.way_is) size

      pub exact_stays : t.bytes ≡ u.bytes → IsGiven node leaf → ((step : Step) (above : List Step) → way ≡ step ∷ above → entries_below s table step ≡ [])
          → length u.bytes ≤ length s.bytes → (step : Step) (above : List Step) → way ≡ step ∷ above → AreGroupKeys (λ key. ⊥) s.bytes table
          → AreFilledBut (node_below s table step) s.bytes table → HasExactKeys t.bytes table
      exact_stays bytes given empty size step above is exact filled =
          let there : node_below s table step ≡ get_or own_list k 0 = sym (node_is step above is) ∙ sym at_end in
          node_dropped_exact s u table links spare blocks group way k own_way taken t bytes (subst (λ n. IsGiven n (leaf_k s.bytes)) (sym at_end) (subst (IsGiven node) leaf_is given))
          (ap (symbols_at s.bytes (leaf_k s.bytes)) own_end.1 ∙ empty own_way.step own_way.above own_way.way_is) size exact
          (subst (λ (n : ℕ). AreFilledBut n s.bytes table) there filled)
