-- What is refused of a group's texts and of its order holds at a block that is reached.
use Rattle.std.proofs.Common.{◌≡◌, ℕ, ◌+◌, ◌≤◌, List, length, refl, sym}
use Rattle.std.specs.Prelude.{map}
use Rattle.h5_bytes.specs.Blocks.{Inside}
use Rattle.h5_bytes.specs.declared.Block.{Block}
use Rattle.h5_bytes.proofs.BlockLaws.{all_left, all_right}
use Rattle.h5_model.specs.Format.Addresses.{SymbolTable}
use Rattle.h5_model.specs.Format.Superblock.{leaf_k}
use Rattle.h5_model.specs.Format.Heap.{heap_blocks}
use Rattle.h5_model.specs.Format.Nodes.{node_block, tree_blocks}
use Rattle.h5_model.specs.Format.Symbols.{symbol_block}
use Rattle.h5_model.specs.Format.Reached.{Named, naming_of, GroupNode, SymbolNode, HeapHeader}
use Rattle.h5_model.specs.declared.open_fault.Cause.{Cause}
use Rattle.h5_model.specs.declared.open_fault.Cause.TheVariants.{HeapName, BadName, NameOrder, KeyOrder, NoMemory}
use Rattle.h5_header.specs.Walk.Met.{IsMet}
use Rattle.h5_btree.specs.Walk.Forms.{OfGroup}
use Rattle.h5_btree.specs.Walk.Followed.{IsTreeFollowed, IsNodeReached}
use Rattle.h5_group.specs.Nodes.Trees.{kind_in, group_nodes_blocks}
use Rattle.h5_group.specs.Nodes.Walk.{IsFault, AreSymbolsReached}
use Rattle.h5_group.specs.Texts.Refused.{AreTextsRefused}
use Rattle.h5_group.specs.Order.Ordered.{IsOrderRefused}
use Rattle.h5_laws.proofs.Lists.{in_all, in_map, in_contains}

module _ (image : List ℕ) (held : List Block) (followed : List Named) (table : SymbolTable) (second depth : ℕ)
    (met : IsMet image held followed (naming_of second (HeapHeader table.tree) table.heap depth)) (inside : Inside (length image) (heap_blocks image table.heap)) where
  pub texts_refused : (cause : Cause) (address : ℕ) → address ≡ table.heap → AreTextsRefused image table cause → IsFault image cause address
  texts_refused NoMemory address e refused = tt
  texts_refused HeapName address e breach = (naming_of second (HeapHeader table.tree) table.heap depth, met.reached, sym e, (inside.0, breach))
  texts_refused BadName address e breach = (naming_of second (HeapHeader table.tree) table.heap depth, met.reached, sym e, (inside.0, breach))
  texts_refused _ address e refused = absurd refused

module _ (image : List ℕ) (now : List Block) (followed : List Named) (table : SymbolTable) (first depth : ℕ) (nodes symbol_nodes : List ℕ)
    (tree : IsTreeFollowed image OfGroup now followed first table.tree table.heap depth nodes symbol_nodes) (inside : Inside (length image) (group_nodes_blocks image nodes symbol_nodes)) where
  abbrev IsInside : Block → Type 0
  IsInside b = b.at + b.len ≤ length image

  pub order_refused : (cause : Cause) (address : ℕ) → IsOrderRefused image table nodes symbol_nodes cause address → IsFault image cause address
  order_refused NoMemory address refused = tt
  order_refused NameOrder address (has, first, breach) =
      let there = in_contains address symbol_nodes has in
      let by = in_all (AreSymbolsReached image table.tree table.heap depth) address symbol_nodes tree.leaves_reached there in
      let block = in_all IsInside (symbol_block (leaf_k image) address) (map (symbol_block (leaf_k image)) symbol_nodes)
      (all_right IsInside (tree_blocks (kind_in image) nodes) (map (symbol_block (leaf_k image)) symbol_nodes) inside) (in_map (symbol_block (leaf_k image)) address symbol_nodes there) in
      (naming_of by.0 (SymbolNode table.tree table.heap) address depth, by.1, refl, (block, breach))
  order_refused KeyOrder address (has, ascend, breach) =
      let there = in_contains address nodes has in
      let by = in_all (IsNodeReached image OfGroup table.tree table.heap depth) address nodes tree.nodes_reached there in
      let block = in_all IsInside (node_block (kind_in image) address) (tree_blocks (kind_in image) nodes)
      (all_left IsInside (tree_blocks (kind_in image) nodes) (map (symbol_block (leaf_k image)) symbol_nodes) inside) (in_map (node_block (kind_in image)) address nodes there) in
      (naming_of by.0 (GroupNode table.tree table.heap by.1) address depth, by.2, refl, (block, breach))
  order_refused _ address refused = absurd refused
