-- A group without links: one node of a tree and a heap, one behind another (File Format Specification 3.0, sections III.A.1 and III.D).
use Rattle.std.proofs.Common.{◌≡◌, ℕ, ◌+◌, ◌*◌, ◌≤◌, List, [], ◌++◌, drop, length, map, sym, ap, ap₂, ◌∙◌, subst, arith, append-nil}
use Rattle.std.proofs.lemmas.List.{length-drop, length-take}
use Rattle.h5_bytes.specs.Bytes.{part}
use Rattle.h5_bytes.specs.Blocks.{Inside, Run}
use Rattle.h5_bytes.specs.Numbers.{word}
use Rattle.h5_bytes.specs.declared.Block.{Block}
use Rattle.h5_bytes.proofs.BlockLaws.{all_so}
use Rattle.h5_model.specs.Format.Addresses.{SymbolTable}
use Rattle.h5_model.specs.Format.Heap.{heap_blocks}
use Rattle.h5_model.specs.Format.Limits.{most_bytes}
use Rattle.h5_model.specs.Format.Nodes.{HasTree, group_kind, tree_blocks}
use Rattle.h5_model.specs.Format.PlainLength.{nodes_over}
use Rattle.h5_model.specs.Format.Sizes.{group_node, symbol_node}
use Rattle.h5_model.specs.Format.Superblock.{AreK, internal_k, leaf_k}
use Rattle.h5_model.specs.Format.Symbols.{symbol_block}
use Rattle.h5_model.proofs.OneTree.{one_children, one_owned}
use Rattle.h5_btree.proofs.WriteLaws.Counts.{level_one, nodes_one, root_level_is}
use Rattle.h5_btree.specs.Writing.Laws.{HasPlainNodes}
use Rattle.h5_btree.specs.Writing.Written.{root_level}
use Rattle.h5_heap.proofs.WriteLaws.Lengths.{segment_length_is}
use Rattle.h5_heap.specs.Writing.Written.{written_segment}
use Rattle.h5_group.specs.Exact.{HasExactKeys}
use Rattle.h5_group.specs.Links.{IsGroupRead}
use Rattle.h5_group.specs.Nodes.Trees.{kind_in}
use Rattle.h5_group.specs.Told.{blocks_told, links_told, nodes_told, symbol_nodes_told}
use Rattle.h5_group.specs.Writing.Laws.{ArePlainLinks, IsPlainGroup}
use Rattle.h5_group.specs.Writing.Written.{heap_place, links_bytes, links_length, symbol_nodes, tree_level}
use Rattle.h5_group.proofs.ExactTrees.{bare_keys}
use Rattle.h5_group.proofs.ToldLaws.{blocks_are_told, links_are_told, nodes_are_told, symbol_nodes_are_told, told_linked}
use Rattle.h5_group.proofs.WriteLaws.GroupReads.{links_read, plain_tree, whole_run}
use Rattle.h5_group.proofs.WriteLaws.Lengths.{links_length_is}
use Rattle.h5_group.proofs.WriteLaws.Runs.{length-runs}

-- where its tree and its heap stand
abbrev pub bare_table : ℕ → ℕ → SymbolTable
bare_table internal at = record { tree = at; heap = at + group_node internal }

-- The group at this place is read, has no links and exact keys, and has its blocks one behind another.
pub record IsBareGroup (image : List ℕ) (internal at : ℕ) : Type 0 where
  pub read : IsGroupRead image (bare_table internal at)
  pub none : links_told image (bare_table internal at) ≡ []
  pub run : Run at (blocks_told image (bare_table internal at)) (at + (group_node internal + 120))
  pub exact : HasExactKeys image (bare_table internal at)

-- what is taken whole ends within the list
part_ends : (at len : ℕ) (bytes : List ℕ) → 1 ≤ len → length (part at len bytes) ≡ len → at + len ≤ length bytes
unfolding part
part_ends at len bytes some whole = omega (arith, some, whole, length-take len (drop at bytes), length-drop at bytes)

-- ---- how long it is

module _ (leaf internal : ℕ) (k : AreK leaf internal) where
  no_symbols : symbol_nodes leaf [] ≡ 0
  no_symbols = sym (length-runs leaf k.leaf_low [])

  pub one_node : nodes_over 64 (2 * internal) (symbol_nodes leaf []) ≡ 1
  one_node = ap (nodes_over 64 (2 * internal)) no_symbols ∙ nodes_one 64 (2 * internal) 0 (omega arith) (omega arith)

  pub bare_length : links_length leaf internal [] ≡ group_node internal + 120
  bare_length =
      let segment : length (written_segment []) ≡ 88 = segment_length_is [] in
      ap₂ (λ (n m : ℕ). n * group_node internal + 32 + length (written_segment []) + m * symbol_node leaf) one_node no_symbols ∙ omega (arith, segment)

  pub bare_heap : (at : ℕ) → heap_place leaf internal at [] ≡ at + group_node internal
  bare_heap at = ap (λ (n : ℕ). at + n * group_node internal) one_node ∙ omega arith

  pub plain_none : ArePlainLinks leaf internal []
  plain_none =
      let level : tree_level leaf internal [] ≡ 0
      = ap (root_level internal) no_symbols ∙ root_level_is internal 0 ∙ level_one 64 (2 * internal) 0 (omega arith) in
      record { k = k; ascending = tt; named = tt; spelled = tt; low = omega (arith, level) }

-- ---- where its bytes stand

module _ (image : List ℕ) (at : ℕ) (k : AreK (leaf_k image) (internal_k image)) (low : at + (group_node (internal_k image) + 120) ≤ most_bytes)
    (there : part at (group_node (internal_k image) + 120) image ≡ links_bytes (leaf_k image) (internal_k image) at []) where
  abbrev leaf : ℕ
  leaf = leaf_k image

  abbrev internal : ℕ
  internal = internal_k image

  abbrev heap : ℕ
  heap = heap_place leaf internal at []

  abbrev table : SymbolTable
  table = record { tree = at; heap = heap }

  long : group_node internal + 120 ≡ links_length leaf internal []
  long = sym (bare_length leaf internal k)

  plain : ArePlainLinks leaf internal []
  plain = plain_none leaf internal k

  short : at + links_length leaf internal [] ≤ most_bytes
  short = subst (λ (n : ℕ). at + n ≤ most_bytes) long low

  stands : part at (links_length leaf internal []) image ≡ links_bytes leaf internal at []
  stands = subst (λ (n : ℕ). part at n image ≡ links_bytes leaf internal at []) long there

  group : IsPlainGroup image leaf internal at []
  group = links_read image leaf internal at [] plain short stands

  abbrev tree : HasPlainNodes image (group_kind internal) word 0 at []
  tree = plain_tree image leaf internal at [] plain short stands

  -- its end lies in the image
  ends : at + links_length leaf internal [] ≤ length image
  ends =
      part_ends at (links_length leaf internal []) image (omega (arith, long)) (ap length stands ∙ links_length_is leaf internal at [] plain)

  read : IsGroupRead image table
  read = record {
    linked = told_linked image table [] group.blocks group.linked;
    inside = subst (Inside (length image)) (blocks_are_told image table [] group.blocks group.linked)
        (all_so (λ (b : Block). b.at + b.len ≤ at + links_length leaf internal []) (λ (b : Block). b.at + b.len ≤ length image) group.blocks (λ b low. omega (arith, low, ends)) group.within);
    few = k.internal_high;
  }

  -- ---- its blocks

  nodes_are : tree.owned ≡ nodes_told image table
  nodes_are =
      let has = group.linked in
      one_owned image (group_kind internal) at _ has.level tree.owned has.owned [] has.symbol_nodes tree.tree has.tree ∙ nodes_are_told image table [] group.blocks has

  symbols_are : [] ≡ symbol_nodes_told image table
  symbols_are =
      let has = group.linked in
      one_children image (group_kind internal) at _ has.level tree.owned has.owned [] has.symbol_nodes tree.tree has.tree ∙ symbol_nodes_are_told image table [] group.blocks has

  laid : tree_blocks (group_kind internal) tree.owned ++ (heap_blocks image heap ++ []) ≡ blocks_told image table
  laid =
      let nodes = tree_blocks (group_kind internal) tree.owned in
      ap (λ (bs : List Block). nodes ++ bs) (append-nil (heap_blocks image heap)) ∙ sym (ap (λ (bs : List Block). bs ++ heap_blocks image heap) (append-nil nodes))
      ∙ ap₂ (λ (ns ss : List ℕ). (tree_blocks (group_kind internal) ns ++ map (symbol_block leaf) ss) ++ heap_blocks image heap) nodes_are symbols_are

  run : Run at (blocks_told image table) (at + (group_node internal + 120))
  run =
      subst (λ (bs : List Block). Run at bs (at + (group_node internal + 120))) laid
      (subst (λ (n : ℕ). Run at (tree_blocks (group_kind internal) tree.owned ++ (heap_blocks image heap ++ [])) (at + n)) (bare_length leaf internal k)
      (whole_run image leaf internal at [] plain short stands))

  no_levels : HasTree image (kind_in image) at 0 tree.owned []
  no_levels = subst (λ (l : ℕ). HasTree image (kind_in image) at l tree.owned []) (root_level_is internal 0 ∙ level_one 64 (2 * internal) 0 (omega arith)) tree.tree

  bare_read : IsBareGroup image internal at
  bare_read =
      let place = bare_heap leaf internal k at in
      record {
        read = subst (λ (h : ℕ). IsGroupRead image (record { tree = at; heap = h })) place read;
        none = subst (λ (h : ℕ). links_told image (record { tree = at; heap = h }) ≡ []) place (sym (links_are_told image table [] group.blocks group.linked));
        run = subst (λ (h : ℕ). Run at (blocks_told image (record { tree = at; heap = h })) (at + (group_node internal + 120))) place run;
        exact = bare_keys image (bare_table internal at) tree.owned no_levels;
      }

-- the same by numbers that are these K
pub bare_group_read : (image : List ℕ) (leaf internal at : ℕ) → leaf_k image ≡ leaf → internal_k image ≡ internal → AreK leaf internal
    → at + (group_node internal + 120) ≤ most_bytes → part at (group_node internal + 120) image ≡ links_bytes leaf internal at [] → IsBareGroup image internal at
bare_group_read image l i at leaf_is internal_is =
    subst (λ (n : ℕ). AreK l n → at + (group_node n + 120) ≤ most_bytes → part at (group_node n + 120) image ≡ links_bytes l n at [] → IsBareGroup image n at) internal_is
    (subst (λ (n : ℕ). AreK n (internal_k image) → at + (group_node (internal_k image) + 120) ≤ most_bytes
    → part at (group_node (internal_k image) + 120) image ≡ links_bytes n (internal_k image) at [] → IsBareGroup image (internal_k image) at) leaf_is
    (bare_read image at))
