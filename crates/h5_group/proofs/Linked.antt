-- A tree, texts and an order make a group.
use Rattle.std.proofs.Common.{◌≡◌, ℕ, ◌+◌, ◌≤◌, List, [], ◌∷◌, ◌++◌, map, length, IsTrue, refl, sym, ap, ap₂, ◌∙◌, subst, arith}
use Rattle.std.specs.List.{AllByRecursion, flat_map}
use Rattle.h5_bytes.specs.Blocks.{cover, Inside}
use Rattle.h5_bytes.specs.declared.Block.{Block}
use Rattle.h5_bytes.proofs.BlockLaws.{all_append, cover-append}
use Rattle.h5_model.specs.Tree.Paths.{is_name}
use Rattle.h5_model.specs.Format.Addresses.{SymbolTable}
use Rattle.h5_model.specs.Format.Superblock.{leaf_k, internal_k, highest_k}
use Rattle.h5_model.specs.Format.Heap.{heap_header, segment_of, heap_blocks, IsHeap, HasNames}
use Rattle.h5_model.specs.Format.Rows.{Node, blank, leaves, nodes}
use Rattle.h5_model.specs.Format.Nodes.{node_at, reading_of}
use Rattle.h5_model.specs.Format.Reached.{level_at}
use Rattle.h5_model.specs.Format.Symbols.{Entry, Target, IsEntry, symbols_of, link_of, texts_of}
use Rattle.h5_model.specs.Format.Links.{AreLinks, HasLinks, key_offsets, offset_in}
use Rattle.h5_model.specs.Faults.TreeFaults.{all_entries}
use Rattle.h5_model.proofs.OneTree.{level_is, owned_is, children_are}
use Rattle.h5_model.proofs.RowLaws.{only_here}
use Rattle.h5_laws.proofs.Lists.{in_all, all_in}
use Rattle.h5_laws.proofs.Entries.{flat-same, own_entries}
use Rattle.h5_btree.specs.Walk.Forms.{OfGroup}
use Rattle.h5_btree.specs.Walk.Trees.{IsTree}
use Rattle.h5_group.specs.Nodes.Trees.{kind_in, group_nodes_blocks}
use Rattle.h5_group.specs.Texts.Named.{AreTexts}
use Rattle.h5_group.specs.Order.Ordered.{AreNamesOrdered}
use Rattle.h5_group.specs.Links.{IsGroupRead}
use Rattle.h5_group.specs.Told.{nodes_told, symbol_nodes_told, blocks_told}
use Rattle.h5_laws.proofs.NameLadders.{own_order}
use Rattle.h5_btree.proofs.KeyedKeys.{all_mapped}
use Rattle.h5_group.proofs.ToldLaws.{told_linked}
use Rattle.h5_group.proofs.NodeLaws.GroupLaws.{nodes_formed, entries_known}

module _ (image : List ℕ) (table : SymbolTable) (owned symbol_nodes : List ℕ) (tree : IsTree image OfGroup table.tree owned symbol_nodes) where
  abbrev segment : List ℕ
  segment = segment_of image table.heap

  abbrev V : ℕ → Node
  V = node_at image (kind_in image)

  abbrev W : ℕ → Node
  W = reading_of image (kind_in image) owned

  abbrev own : ℕ → List Entry
  own = symbols_of image (leaf_k image) symbol_nodes

  abbrev entries : List Entry
  entries = all_entries image symbol_nodes

  abbrev links : List (List ℕ × Target)
  links = map (link_of segment) entries

  level_is_told : level_at image (kind_in image) table.tree ≡ tree.level
  level_is_told = level_is image (kind_in image) table.tree tree.level owned symbol_nodes tree.tree

  nodes_are : owned ≡ nodes_told image table
  nodes_are = owned_is image (kind_in image) table.tree tree.level owned symbol_nodes tree.tree ∙ ap (λ (l : ℕ). nodes V l (table.tree ∷ [])) (sym level_is_told)

  pub leaves_are : symbol_nodes ≡ symbol_nodes_told image table
  leaves_are = children_are image (kind_in image) table.tree tree.level owned symbol_nodes tree.tree ∙ ap (λ (l : ℕ). leaves V l (table.tree ∷ [])) (sym level_is_told)

  abbrev blocks : List Block
  blocks = group_nodes_blocks image owned symbol_nodes ++ heap_blocks image table.heap

  blocks_are : blocks ≡ blocks_told image table
  blocks_are = ap₂ (λ (ns ss : List ℕ). group_nodes_blocks image ns ss ++ heap_blocks image table.heap) nodes_are leaves_are

  -- what was claimed for the heap, and then for the tree
  pub both_claimed : (p : ℕ) (held between now : List Block) → cover p between ≡ cover p held + cover p (heap_blocks image table.heap)
      → cover p now ≡ cover p between + cover p (group_nodes_blocks image owned symbol_nodes) → cover p now ≡ cover p held + cover p (blocks_told image table)
  both_claimed p held between now first then =
      let all : cover p (blocks_told image table) ≡ cover p (group_nodes_blocks image owned symbol_nodes) + cover p (heap_blocks image table.heap)
      = ap (cover p) (sym blocks_are) ∙ cover-append p (group_nodes_blocks image owned symbol_nodes) (heap_blocks image table.heap) in
      omega (arith, first, then, all)

  keys_are : key_offsets V owned ≡ key_offsets W owned
  keys_are = flat-same (λ at. map offset_in (V at).keys) (λ at. map offset_in (W at).keys) owned
      (all_in (λ at. map offset_in (V at).keys ≡ map offset_in (W at).keys) owned
      (λ at there. ap (λ (n : Node). map offset_in n.keys) (in_all (λ n. V n ≡ W n) at owned (only_here blank V owned) there)))

  module _ (free : List Block) (texts : AreTexts image segment free owned symbol_nodes) (order : AreNamesOrdered image segment owned symbol_nodes)
      (heap : IsHeap (heap_header image table.heap) segment free) where
    abbrev Spans : List Entry → List ℕ → Type 0
    Spans es keys = HasNames segment free (map (λ (e : Entry). e.name) es) (texts_of es) keys texts.loose

    listed : AreLinks W own (heap_header image table.heap) segment owned symbol_nodes links
    listed = record {
      cached = subst (AllByRecursion IsEntry) (own_entries image symbol_nodes) (entries_known image symbol_nodes tree.formed);
      all = ap (map (link_of segment)) (own_entries image symbol_nodes);
      ascending = order.ascending;
      named = all_mapped (λ (l : List ℕ × Target). IsTrue (is_name l.0)) (link_of segment) entries texts.named;
      ordered = own_order image segment (leaf_k image) (kind_in image) table.tree tree.level owned symbol_nodes tree.tree order.ordered;
      free = free;
      loose = texts.loose;
      heap_form = heap;
      spans = subst (λ (ks : List ℕ). Spans (flat_map own symbol_nodes) ks) keys_are (subst (λ (es : List Entry). Spans es (key_offsets V owned)) (own_entries image symbol_nodes) texts.spans);
    }

    linked : HasLinks image (leaf_k image) (internal_k image) table.tree table.heap links blocks
    linked = record {
      level = tree.level;
      owned = owned;
      symbol_nodes = symbol_nodes;
      tree = tree.tree;
      formed = nodes_formed image symbol_nodes tree.formed;
      listed = listed;
      laid = refl;
    }

    pub group_read : Inside (length image) (group_nodes_blocks image owned symbol_nodes) → Inside (length image) (heap_blocks image table.heap) → internal_k image ≤ highest_k
        → IsGroupRead image table
    group_read trees inside few = record {
      linked = told_linked image table links blocks linked;
      inside = subst (Inside (length image)) blocks_are
          (all_append (λ (b : Block). b.at + b.len ≤ length image) (group_nodes_blocks image owned symbol_nodes) (heap_blocks image table.heap) trees inside);
      few = few;
    }
