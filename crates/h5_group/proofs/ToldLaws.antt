-- Whatever links stand at a tree and a heap, in whatever blocks, are those that the image tells; and they stay where the blocks' bytes do.
use Rattle.std.proofs.Common.{◌≡◌, ℕ, List, [], ◌∷◌, ◌++◌, map, sym, ap, ap₂, ◌∙◌, subst}
use Rattle.h5_bytes.specs.Blocks.{Keeps}
use Rattle.h5_bytes.specs.declared.Block.{Block}
use Rattle.h5_model.specs.Format.Addresses.{SymbolTable}
use Rattle.h5_model.specs.Format.Superblock.{leaf_k, internal_k}
use Rattle.h5_model.specs.Format.Heap.{segment_of, heap_blocks}
use Rattle.h5_model.specs.Format.Rows.{leaves, nodes}
use Rattle.h5_model.specs.Format.Nodes.{node_at}
use Rattle.h5_model.specs.Format.Reached.{level_at}
use Rattle.h5_model.specs.Format.Symbols.{Target, link_of}
use Rattle.h5_model.specs.Format.Links.{HasLinks}
use Rattle.h5_model.specs.Faults.TreeFaults.{all_entries}
use Rattle.h5_model.proofs.Frames.{links-same}
use Rattle.h5_model.proofs.OneTree.{level_is, owned_is, children_are}
use Rattle.h5_laws.proofs.Entries.{links_are}
use Rattle.h5_group.specs.Nodes.Trees.{kind_in, group_nodes_blocks}
use Rattle.h5_group.specs.Told.{nodes_told, symbol_nodes_told, links_told, blocks_told}

module _ (image : List ℕ) (t : SymbolTable) (links : List (List ℕ × Target)) (blocks : List Block)
    (has : HasLinks image (leaf_k image) (internal_k image) t.tree t.heap links blocks) where
  level_told : has.level ≡ level_at image (kind_in image) t.tree
  level_told = sym (level_is image (kind_in image) t.tree has.level has.owned has.symbol_nodes has.tree)

  pub nodes_are_told : has.owned ≡ nodes_told image t
  nodes_are_told = owned_is image (kind_in image) t.tree has.level has.owned has.symbol_nodes has.tree
      ∙ ap (λ (l : ℕ). nodes (node_at image (kind_in image)) l (t.tree ∷ [])) level_told

  pub symbol_nodes_are_told : has.symbol_nodes ≡ symbol_nodes_told image t
  symbol_nodes_are_told = children_are image (kind_in image) t.tree has.level has.owned has.symbol_nodes has.tree
      ∙ ap (λ (l : ℕ). leaves (node_at image (kind_in image)) l (t.tree ∷ [])) level_told

  pub links_are_told : links ≡ links_told image t
  links_are_told = links_are image t.tree t.heap links blocks has
      ∙ ap (λ (ns : List ℕ). map (link_of (segment_of image t.heap)) (all_entries image ns)) symbol_nodes_are_told

  pub blocks_are_told : blocks ≡ blocks_told image t
  blocks_are_told = has.laid
      ∙ ap₂ (λ (ns ss : List ℕ). group_nodes_blocks image ns ss ++ heap_blocks image t.heap) nodes_are_told symbol_nodes_are_told

  pub told_linked : HasLinks image (leaf_k image) (internal_k image) t.tree t.heap (links_told image t) (blocks_told image t)
  told_linked = subst (λ (bs : List Block). HasLinks image (leaf_k image) (internal_k image) t.tree t.heap (links_told image t) bs) blocks_are_told
      (subst (λ (ls : List (List ℕ × Target)). HasLinks image (leaf_k image) (internal_k image) t.tree t.heap ls blocks) links_are_told has)

-- a group stays where its blocks' bytes stay
module _ (old new : List ℕ) (leaf : leaf_k new ≡ leaf_k old) (internal : internal_k new ≡ internal_k old) (t : SymbolTable)
    (has : HasLinks old (leaf_k old) (internal_k old) t.tree t.heap (links_told old t) (blocks_told old t)) (kept : Keeps old new (blocks_told old t)) where
  stays : HasLinks new (leaf_k new) (internal_k new) t.tree t.heap (links_told old t) (blocks_told old t)
  stays = rw (leaf, internal) (links-same old new (leaf_k old) (internal_k old) t.tree t.heap (links_told old t) (blocks_told old t) kept has)

  pub links_told-same : links_told new t ≡ links_told old t
  links_told-same = sym (links_are_told new t (links_told old t) (blocks_told old t) stays)

  pub blocks_told-same : blocks_told new t ≡ blocks_told old t
  blocks_told-same = sym (blocks_are_told new t (links_told old t) (blocks_told old t) stays)

  pub told-same : HasLinks new (leaf_k new) (internal_k new) t.tree t.heap (links_told new t) (blocks_told new t)
  told-same = told_linked new t (links_told old t) (blocks_told old t) stays
