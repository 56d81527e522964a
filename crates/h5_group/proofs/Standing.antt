-- What is known of a group that was read: its blocks are there, its symbol nodes are formed, and its names ascend.
use Rattle.std.proofs.Common.{◌≡◌, ℕ, ◌+◌, ◌*◌, ◌≤◌, inl, inr, List, [], ◌∷◌, ◌++◌, map, length, sym, ap, subst, ◌∙◌}
use Rattle.std.specs.List.{AllByRecursion, Contains, flat_map}
use Rattle.std.proofs.lemmas.List.{map-append}
use Rattle.h5_bytes.specs.Blocks.{Inside}
use Rattle.h5_bytes.specs.declared.Block.{Block}
use Rattle.h5_bytes.proofs.BlockLaws.{all_left, all_right}
use Rattle.h5_model.specs.Format.Addresses.{SymbolTable}
use Rattle.h5_model.specs.Format.Superblock.{leaf_k}
use Rattle.h5_model.specs.Format.Heap.{segment_of, heap_blocks}
use Rattle.h5_model.specs.Format.Nodes.{node_at, tree_blocks}
use Rattle.h5_model.specs.Format.Symbols.{Entry, Target, IsSymbolNode, symbol_block, symbol_bytes, symbols_at, symbols_of, link_of}
use Rattle.h5_model.specs.Format.Links.{Ascend, IsOrdered}
use Rattle.h5_model.specs.Faults.TreeFaults.{all_entries}
use Rattle.h5_laws.proofs.Lists.{In, in_all, in_map, in_contains}
use Rattle.h5_laws.proofs.Entries.{own_entries}
use Rattle.h5_laws.proofs.NameLadders.{order_there}
use Rattle.h5_laws.proofs.Ascending.{ascend_tail}
use Rattle.h5_group.specs.Nodes.Trees.{kind_in}
use Rattle.h5_group.proofs.ToldLaws.{symbol_nodes_are_told}
use Rattle.h5_group.specs.Told.{symbol_nodes_told, links_told, blocks_told}
use Rattle.h5_group.specs.Links.{IsGroupRead}

-- ---- a part of what ascends

ascend_right : (xs ys : List (List ℕ × Target)) → Ascend (xs ++ ys) → Ascend ys
ascend_right [] ys rises = rises
ascend_right (a ∷ xs) ys rises = ascend_right xs ys (ascend_tail a (xs ++ ys) rises)

ascend_left : (xs ys : List (List ℕ × Target)) → Ascend (xs ++ ys) → Ascend xs
ascend_left [] ys rises = tt
ascend_left (a ∷ []) ys rises = tt
ascend_left (a ∷ b ∷ xs) ys rises = (rises.0, ascend_left (b ∷ xs) ys rises.1)

ascend_at : (f : Entry → List ℕ × Target) (S : ℕ → List Entry) (at : ℕ) (nodes : List ℕ) → In at nodes
    → Ascend (map f (flat_map S nodes)) → Ascend (map f (S at))
ascend_at f S at [] there rises = absurd there
ascend_at f S at (n ∷ ns) (inl e) rises =
    let both = subst Ascend (map-append f (S n) (flat_map S ns)) rises in
    subst (λ (m : ℕ). Ascend (map f (S m))) e (ascend_left (map f (S n)) (map f (flat_map S ns)) both)
ascend_at f S at (n ∷ ns) (inr there) rises =
    let both = subst Ascend (map-append f (S n) (flat_map S ns)) rises in
    ascend_at f S at ns there (ascend_right (map f (S n)) (map f (flat_map S ns)) both)

-- ---- a group that was read

module _ (image : List ℕ) (table : SymbolTable) (read : IsGroupRead image table) where
  pub symbols_are : (read.linked).symbol_nodes ≡ symbol_nodes_told image table
  symbols_are = symbol_nodes_are_told image table (links_told image table) (blocks_told image table) read.linked

  laid : Inside (length image) ((tree_blocks (kind_in image) (read.linked).owned ++ map (symbol_block (leaf_k image)) (read.linked).symbol_nodes) ++ heap_blocks image table.heap)
  laid = subst (Inside (length image)) (read.linked).laid read.inside

  abbrev IsInside : Block → Type 0
  IsInside b = b.at + b.len ≤ length image

  trees_there : Inside (length image) (tree_blocks (kind_in image) (read.linked).owned ++ map (symbol_block (leaf_k image)) (read.linked).symbol_nodes)
  trees_there = all_left IsInside (tree_blocks (kind_in image) (read.linked).owned ++ map (symbol_block (leaf_k image)) (read.linked).symbol_nodes) (heap_blocks image table.heap) laid

  pub heap_there : Inside (length image) (heap_blocks image table.heap)
  heap_there = all_right IsInside (tree_blocks (kind_in image) (read.linked).owned ++ map (symbol_block (leaf_k image)) (read.linked).symbol_nodes) (heap_blocks image table.heap) laid

  pub nodes_there : Inside (length image) (tree_blocks (kind_in image) (read.linked).owned)
  nodes_there = all_left IsInside (tree_blocks (kind_in image) (read.linked).owned) (map (symbol_block (leaf_k image)) (read.linked).symbol_nodes) trees_there

  -- the entries of the symbol nodes, as they stand
  pub entries_are : all_entries image (symbol_nodes_told image table) ≡ flat_map (symbols_of image (leaf_k image) (read.linked).symbol_nodes) (read.linked).symbol_nodes
  entries_are = ap (all_entries image) (sym symbols_are) ∙ own_entries image (read.linked).symbol_nodes

  pub ascending : Ascend (links_told image table)
  ascending = subst Ascend ((read.linked).listed.all ∙ ap (map (link_of (segment_of image table.heap))) (sym entries_are)) (read.linked).listed.ascending

  -- each of the tree's nodes is ordered, as it stands
  pub nodes_ordered : AllByRecursion (λ at. IsOrdered (node_at image (kind_in image)) (symbols_at image (leaf_k image)) (segment_of image table.heap) (node_at image (kind_in image) at))
      (read.linked).owned
  nodes_ordered = order_there image (segment_of image table.heap) (leaf_k image) (kind_in image) table.tree (read.linked).level (read.linked).owned (read.linked).symbol_nodes
      (read.linked).tree (read.linked).listed.ordered

  -- one of the symbol nodes
  module _ (at : ℕ) (there : Contains (symbol_nodes_told image table) at) where
    pub listed : In at (symbol_nodes_told image table)
    listed = in_contains at (symbol_nodes_told image table) there

    own_listed : In at (read.linked).symbol_nodes
    own_listed = subst (In at) (sym symbols_are) listed

    pub node_there : at + (8 + 80 * leaf_k image) ≤ length image
    node_there =
        in_all IsInside (symbol_block (leaf_k image) at) (map (symbol_block (leaf_k image)) (read.linked).symbol_nodes)
        (all_right IsInside (tree_blocks (kind_in image) (read.linked).owned) (map (symbol_block (leaf_k image)) (read.linked).symbol_nodes) trees_there)
        (in_map (symbol_block (leaf_k image)) at (read.linked).symbol_nodes own_listed)

    pub node_formed : IsSymbolNode (leaf_k image) (symbol_bytes image (leaf_k image) at)
    node_formed = in_all (λ n. IsSymbolNode (leaf_k image) (symbol_bytes image (leaf_k image) n)) at (read.linked).symbol_nodes (read.linked).formed own_listed

    pub node_ascends : Ascend (map (link_of (segment_of image table.heap)) (symbols_at image (leaf_k image) at))
    node_ascends = ascend_at (link_of (segment_of image table.heap)) (symbols_at image (leaf_k image)) at (symbol_nodes_told image table) listed ascending
