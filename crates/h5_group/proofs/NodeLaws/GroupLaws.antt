-- The tree of a group is one over symbol nodes, each of its form, and its keys are free.
use Rattle.std.proofs.Common.{ℕ, List, [], ◌∷◌, sym, subst}
use Rattle.std.specs.List.{AllByRecursion}
use Rattle.h5_bytes.specs.declared.Block.{Block}
use Rattle.h5_bytes.proofs.BlockLaws.{all_append, all_left, all_right}
use Rattle.h5_model.specs.Format.Addresses.{SymbolTable}
use Rattle.h5_model.specs.Format.Links.{HasLinks}
use Rattle.h5_model.specs.Format.Nodes.{node_at}
use Rattle.h5_model.specs.Format.Superblock.{leaf_k, internal_k}
use Rattle.h5_model.specs.Format.Rows.{Reading, row_below}
use Rattle.h5_model.specs.Format.Symbols.{IsEntry, IsSymbolNode, Target, symbol_bytes, symbols_at}
use Rattle.h5_model.specs.Faults.TreeFaults.{all_entries}
use Rattle.h5_laws.proofs.Entries.{own_entries}
use Rattle.h5_btree.specs.Walk.Forms.{OfGroup, IsFormed, IsKeyed}
use Rattle.h5_btree.specs.Walk.Trees.{IsTree}
use Rattle.h5_group.specs.Nodes.Trees.{kind_in}

module _ (image : List ℕ) where
  pub nodes_formed : (ss : List ℕ) → AllByRecursion (IsFormed image OfGroup) ss → AllByRecursion (λ at. IsSymbolNode (leaf_k image) (symbol_bytes image (leaf_k image) at)) ss
  nodes_formed [] all = tt
  nodes_formed (s ∷ ss) all = (all.0.0, nodes_formed ss all.1)

  pub entries_known : (ss : List ℕ) → AllByRecursion (IsFormed image OfGroup) ss → AllByRecursion IsEntry (all_entries image ss)
  entries_known [] all = tt
  entries_known (s ∷ ss) all = all_append IsEntry (symbols_at image (leaf_k image) s) (all_entries image ss) all.0.1 (entries_known ss all.1)

  pub all_formed : (ss : List ℕ) → AllByRecursion (λ at. IsSymbolNode (leaf_k image) (symbol_bytes image (leaf_k image) at)) ss → AllByRecursion IsEntry (all_entries image ss)
      → AllByRecursion (IsFormed image OfGroup) ss
  all_formed [] formed known = tt
  all_formed (s ∷ ss) formed known = (
    (formed.0, all_left IsEntry (symbols_at image (leaf_k image) s) (all_entries image ss) known),
    all_formed ss formed.1 (all_right IsEntry (symbols_at image (leaf_k image) s) (all_entries image ss) known),
  )

pub all_keyed : (V : Reading) (row : List ℕ) → AllByRecursion (λ at. IsKeyed OfGroup (V at)) row
all_keyed V [] = tt
all_keyed V (n ∷ row) = (λ i low. tt, all_keyed V row)

-- the tree of links is one
pub linked_tree : (image : List ℕ) (table : SymbolTable) (links : List (List ℕ × Target)) (blocks : List Block)
    → (has : HasLinks image (leaf_k image) (internal_k image) table.tree table.heap links blocks) → IsTree image OfGroup table.tree has.owned has.symbol_nodes
linked_tree image table links blocks has = record {
  level = has.level;
  tree = has.tree;
  formed = all_formed image has.symbol_nodes has.formed (subst (AllByRecursion IsEntry) (sym (own_entries image has.symbol_nodes)) has.listed.cached);
  keyed = all_keyed (node_at image (kind_in image)) (row_below (node_at image (kind_in image)) has.level (table.tree ∷ []));
}
