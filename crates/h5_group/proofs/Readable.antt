-- A group whose blocks can all be claimed is refused for want of memory alone.
use Rattle.std.proofs.Common.{◌≡◌, ℕ, ◌+◌, ◌≤◌, List, [], ◌∷◌, ◌++◌, length, refl, ap, ◌∙◌, subst, arith}
use Rattle.h5_bytes.specs.Blocks.{cover, Inside}
use Rattle.h5_bytes.specs.declared.Block.{Block}
use Rattle.h5_bytes.proofs.BlockLaws.{all_left, all_right, cover-append}
use Rattle.h5_model.specs.Format.Addresses.{SymbolTable}
use Rattle.h5_model.specs.Format.Heap.{heap_blocks}
use Rattle.h5_model.specs.Format.Rows.{row_below}
use Rattle.h5_model.specs.Format.Nodes.{node_at}
use Rattle.h5_model.specs.declared.open_fault.Cause.{Cause}
use Rattle.h5_model.specs.declared.open_fault.Cause.TheVariants.{HeapName, BadName, NameOrder, KeyOrder, NoMemory}
use Rattle.h5_model.proofs.OneTree.{owned_is, one_owned}
use Rattle.h5_heap.specs.Refused.{IsHeapReadable}
use Rattle.h5_laws.proofs.Lists.{In, in_contains}
use Rattle.h5_laws.proofs.GroupExcluded.{name_excluded, bad_name_excluded, heap_name_excluded}
use Rattle.h5_laws.proofs.OrderExcluded.{key_excluded}
use Rattle.h5_laws.proofs.Rows.{row_of}
use Rattle.h5_btree.specs.Walk.Forms.{OfGroup}
use Rattle.h5_btree.specs.Walk.Trees.{IsTree}
use Rattle.h5_btree.specs.Walk.Readable.{IsTreeReadable}
use Rattle.h5_group.specs.Nodes.Trees.{kind_in, group_nodes_blocks}
use Rattle.h5_group.specs.Texts.Refused.{AreTextsRefused}
use Rattle.h5_group.specs.Order.Ordered.{IsOrderRefused}
use Rattle.h5_group.specs.Links.{IsGroupReadable}
use Rattle.h5_group.proofs.NodeLaws.GroupLaws.{linked_tree}

module _ (image : List ℕ) (table : SymbolTable) (held : List Block) (readable : IsGroupReadable image table held) where
  abbrev tree_part : List Block
  tree_part = group_nodes_blocks image (readable.has).owned (readable.has).symbol_nodes

  abbrev heap_part : List Block
  heap_part = heap_blocks image table.heap

  abbrev IsInside : Block → Type 0
  IsInside b = b.at + b.len ≤ length image

  inside : Inside (length image) (tree_part ++ heap_part)
  inside = subst (Inside (length image)) (readable.has).laid readable.inside

  parts : (p : ℕ) → cover p readable.blocks ≡ cover p tree_part + cover p heap_part
  parts p = ap (cover p) (readable.has).laid ∙ cover-append p tree_part heap_part

  pub heap_readable : IsHeapReadable image table.heap held
  heap_readable = record {
    free = (readable.has).listed.free;
    has = (readable.has).listed.heap_form;
    inside = all_right IsInside tree_part heap_part inside;
    separate = λ p. omega (arith, readable.separate p, parts p);
  }

  pub tree_readable : (now : List Block) → ((p : ℕ) → cover p now ≡ cover p held + cover p (heap_blocks image table.heap)) → IsTreeReadable image OfGroup table.tree now
  tree_readable now claimed = record {
    nodes = (readable.has).owned;
    leaves = (readable.has).symbol_nodes;
    has = linked_tree image table readable.links readable.blocks readable.has;
    inside = all_left IsInside tree_part heap_part inside;
    separate = λ p. omega (arith, readable.separate p, parts p, claimed p);
  }

  pub texts_memory : (cause : Cause) → AreTextsRefused image table cause → cause ≡ NoMemory
  texts_memory NoMemory refused = refl
  texts_memory HeapName breach = absurd (heap_name_excluded image table.tree table.heap readable.links readable.blocks readable.has breach)
  texts_memory BadName breach = absurd (bad_name_excluded image table.tree table.heap readable.links readable.blocks readable.has breach)
  texts_memory _ refused = absurd refused

  module _ (owned symbol_nodes : List ℕ) (tree : IsTree image OfGroup table.tree owned symbol_nodes) where
    own_row : (at : ℕ) → In at owned → (d : ℕ) × (l : ℕ) × (d + l ≡ (readable.has).level) × In at (row_below (node_at image (kind_in image)) d (table.tree ∷ []))
    own_row at there =
        let same = one_owned image (kind_in image) table.tree tree.level (readable.has).level owned (readable.has).owned symbol_nodes (readable.has).symbol_nodes tree.tree (readable.has).tree in
        let are = owned_is image (kind_in image) table.tree (readable.has).level (readable.has).owned (readable.has).symbol_nodes (readable.has).tree in
        row_of (node_at image (kind_in image)) (readable.has).level at (table.tree ∷ []) (subst (In at) (same ∙ are) there)

    pub order_memory : (cause : Cause) (address : ℕ) → IsOrderRefused image table owned symbol_nodes cause address → cause ≡ NoMemory
    order_memory NoMemory address refused = refl
    order_memory NameOrder address (there, first, breach) = absurd (name_excluded image table.tree table.heap readable.links readable.blocks readable.has address breach)
    order_memory KeyOrder address (there, ascend, breach) =
        let row = own_row address (in_contains address owned there) in
        absurd (key_excluded image table.tree table.heap readable.links readable.blocks readable.has row.0 row.1 address row.2 row.3 breach)
    order_memory _ address refused = absurd refused
