-- Where the symbol nodes of a tree stand (File Format Specification 3.0, sections III.A.1 and III.B).
use Rattle.std.specs.Prelude.{ℕ, List, [], ◌∷◌, length}
use Rattle.std.specs.List.{AllByRecursion}
use Rattle.h5_bytes.specs.Blocks.{Inside}
use Rattle.h5_btree.specs.Walk.Forms.{OfGroup}
use Rattle.h5_btree.specs.Walk.Trees.{IsTree}
use Rattle.h5_btree.specs.Walk.Below.{IsBottom}
use Rattle.h5_btree.proofs.WalkLaws.StandLaws.{leaves_stand}
use Rattle.h5_group.specs.Nodes.Trees.{group_nodes_blocks}
use Rattle.h5_group.specs.Nodes.Stands.{IsSymbolsAt}

module _ (image : List ℕ) where
  each_symbols : (symbol_nodes : List ℕ) → AllByRecursion (IsBottom image OfGroup) symbol_nodes → AllByRecursion (IsSymbolsAt image) symbol_nodes
  each_symbols [] all = tt
  each_symbols (at ∷ rest) all = (record { formed = all.0.formed.0; inside = all.0.there }, each_symbols rest all.1)

  pub symbols_stand : (root : ℕ) (nodes symbol_nodes : List ℕ) → IsTree image OfGroup root nodes symbol_nodes
      → Inside (length image) (group_nodes_blocks image nodes symbol_nodes) → AllByRecursion (IsSymbolsAt image) symbol_nodes
  symbols_stand root nodes symbol_nodes tree inside = each_symbols symbol_nodes (leaves_stand image OfGroup root nodes symbol_nodes tree inside)
