-- What a group that is reached names is reached.
use Rattle.std.proofs.Common.{◌≡◌, ◌≢◌, inl, inr, ℕ, zero, suc, ◌+◌, ◌-◌, ◌*◌, ◌<◌, ◌≤◌, List, [], ◌∷◌, ◌++◌, map, length, refl, sym, ap, ◌∙◌, subst, arith, Some, None, true, false, Bool}
use Rattle.std.proofs.lemmas.Bool.Decides.{nat_tests}
use Rattle.std.specs.Prelude.{◌==◌, nat_le, if◌then◌else◌}
use Rattle.std.specs.Ordering.{nat_cmp}
use Rattle.std.specs.FinMap.{FinMap}
use Rattle.h5_model.specs.Format.Limits.{highest_level}
use Rattle.h5_model.specs.Format.MessageTypes.{symbol_table_kind}
use Rattle.h5_bytes.specs.Bytes.{number_at}
use Rattle.h5_bytes.specs.Blocks.{Inside}
use Rattle.h5_bytes.specs.declared.Block.{Block}
use Rattle.h5_bytes.proofs.PartLaws.{length-part}
use Rattle.h5_bytes.proofs.FieldLaws.{number_at-part}
use Rattle.h5_bytes.proofs.BlockLaws.{all_left, all_right}
use Rattle.h5_model.specs.Format.Addresses.{SymbolTable, symbol_table_of}
use Rattle.h5_model.specs.Format.Heap.{heap_blocks}
use Rattle.h5_model.specs.Format.Rows.{Node, next_row, row_below}
use Rattle.h5_model.specs.Format.Nodes.{Kind, group_kind, node_at, node_of, node_bytes, node_block, node_length, entries_in, key_place, child_in, tree_blocks}
use Rattle.h5_model.specs.Format.Symbols.{IsSymbolNode, symbol_block, symbol_bytes, symbols_in}
use Rattle.h5_model.specs.Format.Superblock.{leaf_k, internal_k}
use Rattle.h5_model.specs.Tree.Objects.{Tree}
use Rattle.h5_model.specs.Format.Reads.{Placed, Holds}
use Rattle.h5_model.specs.Format.Reached.{naming_of, Role, ObjectHeader, GroupNode, SymbolNode, Reached, by_block, group_root, level_at, entry_in, size_at, kind_at}
use Rattle.h5_model.proofs.OneTree.{level_is, children_are}
use Rattle.h5_laws.proofs.Lists.{In, in_all, in_map, from_flat, from_table}
use Rattle.h5_laws.proofs.Rows.{row_after}
use Rattle.h5_laws.proofs.Trees.{row_owned, row_node}
use Rattle.h5_laws.proofs.Datasets.{find_in}
use Rattle.h5_laws.proofs.Steps.{header_inside, content_inside, below_role}
use Rattle.h5_laws.proofs.MetMessages.{MetMessage, message_met}
use Rattle.h5_laws.proofs.Located.{KnownGroup}

long_table : (s : SymbolTable) (bytes : List ℕ) → symbol_table_of bytes ≡ Some s
    → (16 ≤ length bytes) × (s ≡ record { tree = number_at bytes 0 8; heap = number_at bytes 8 8 })
unfolding symbol_table_of
long_table s bytes says = go (nat_le 16 (length bytes)) refl says where
  go : (t : Bool) → nat_le 16 (length bytes) ≡ t → (if t then Some (record { tree = number_at bytes 0 8; heap = number_at bytes 8 8 }) else None) ≡ Some s
      → (16 ≤ length bytes) × (s ≡ record { tree = number_at bytes 0 8; heap = number_at bytes 8 8 })
  go true holds given = (let long : 16 ≤ length bytes = grind (arith, nat_tests, holds) in long, let same : s ≡ record { tree = number_at bytes 0 8; heap = number_at bytes 8 8 } = cc in same)
  go false holds given = absurd (let never : None ≡ Some s = given in cc)

-- a block of this role at this address is reached, so many links below the root
abbrev pub IsReached : List ℕ → Role → ℕ → ℕ → Type 0
IsReached image role at depth = (field : ℕ) × Reached image (naming_of field role at depth)

children_of : (image : List ℕ) (kind : Kind) (node c : ℕ) → In c (node_at image kind node).children
    → (i : ℕ) × (i < entries_in (node_bytes image kind node)) × (child_in kind (node_bytes image kind node) i ≡ c)
unfolding node_of
children_of image kind node c at = from_table (child_in kind (node_bytes image kind node)) (entries_in (node_bytes image kind node)) c at

module _ (image : List ℕ) (table : FinMap nat_cmp ℕ) (tree : Tree) (placed : List Placed) (reads : Holds image table tree placed)
    (n depth root heap : ℕ) (g : KnownGroup image table tree placed n root heap) (reached : IsReached image ObjectHeader g.k.o.header depth) where
  abbrev kind : Kind
  kind = group_kind (internal_k image)

  -- where the Symbol Table message is met
  met : MetMessage image g.k.o.header g.m
  met = message_met image g.k.o.header g.k.has.messages g.k.has.header_blocks g.k.has.listed (header_inside image table tree placed reads n g.k) g.m
      (find_in symbol_table_kind g.k.has.messages g.m g.first).0

  long : 16 ≤ size_at image met.at
  long = omega (
    arith,
    (long_table (record { tree = root; heap = heap }) g.m.body g.says).0,
    ap length met.body,
    length-part (met.at + 8) (size_at image met.at) image met.inside,
  )

  root_is : root ≡ number_at image (met.at + 8) 8
  root_is =
      let says = (long_table (record { tree = root; heap = heap }) g.m.body g.says).1 in
      let none : met.at + 8 + 0 ≡ met.at + 8 = omega arith in
      ap (λ (s : SymbolTable). s.tree) says ∙ ap (λ bs. number_at bs 0 8) met.body
      ∙ number_at-part 0 8 (met.at + 8) (size_at image met.at) image (omega (arith, long)) ∙ ap (λ (p : ℕ). number_at image p 8) none

  heap_is : heap ≡ number_at image (met.at + 16) 8
  heap_is =
      let says = (long_table (record { tree = root; heap = heap }) g.m.body g.says).1 in
      let over : met.at + 8 + 8 ≡ met.at + 16 = omega arith in
      ap (λ (s : SymbolTable). s.heap) says ∙ ap (λ bs. number_at bs 8 8) met.body
      ∙ number_at-part 8 8 (met.at + 8) (size_at image met.at) image (omega (arith, long)) ∙ ap (λ (p : ℕ). number_at image p 8) over

  root_reached : IsReached image (group_root image root heap) root depth
  root_reached =
      let a = number_at image (met.at + 8) 8 in
      let b = number_at image (met.at + 16) 8 in
      let kind_is : kind_at image met.at ≡ symbol_table_kind = met.kind ∙ (find_in symbol_table_kind g.k.has.messages g.m g.first).1 in
      let y = naming_of (met.at + 8) (group_root image a b) a depth in
      let there : Reached image y = by_block reached.1 (inl (met.at, met.fits, long, inr (inl (kind_is, refl)))) (omega (arith, long, met.inside)) in (
        met.at + 8,
        subst (λ (r : ℕ). Reached image (naming_of (met.at + 8) (group_root image r heap) r depth)) (sym root_is)
            (subst (λ (h : ℕ). Reached image (naming_of (met.at + 8) (group_root image a h) a depth)) (sym heap_is) there),
      )

  inside : Inside (length image) ((tree_blocks kind g.linked.owned ++ map (symbol_block (leaf_k image)) g.linked.symbol_nodes) ++ heap_blocks image heap)
  inside = subst (Inside (length image)) g.linked.laid (content_inside image table tree placed reads n g.k)

  node_inside : (at : ℕ) → In at g.linked.owned → at + node_length kind ≤ length image
  node_inside at member =
      let nodes = all_left (λ (b : Block). b.at + b.len ≤ length image) (tree_blocks kind g.linked.owned ++ map (symbol_block (leaf_k image)) g.linked.symbol_nodes) (heap_blocks image heap) inside in
      let trees = all_left (λ (b : Block). b.at + b.len ≤ length image) (tree_blocks kind g.linked.owned) (map (symbol_block (leaf_k image)) g.linked.symbol_nodes) nodes in
      in_all (λ (b : Block). b.at + b.len ≤ length image) (node_block kind at) (tree_blocks kind g.linked.owned) trees (in_map (node_block kind) at g.linked.owned member)

  symbols_inside : (at : ℕ) → In at g.linked.symbol_nodes → at + (8 + 80 * leaf_k image) ≤ length image
  symbols_inside at member =
      let nodes = all_left (λ (b : Block). b.at + b.len ≤ length image) (tree_blocks kind g.linked.owned ++ map (symbol_block (leaf_k image)) g.linked.symbol_nodes) (heap_blocks image heap) inside in
      let symbols = all_right (λ (b : Block). b.at + b.len ≤ length image) (tree_blocks kind g.linked.owned) (map (symbol_block (leaf_k image)) g.linked.symbol_nodes) nodes in
      in_all (λ (b : Block). b.at + b.len ≤ length image) (symbol_block (leaf_k image) at) (map (symbol_block (leaf_k image)) g.linked.symbol_nodes) symbols
      (in_map (symbol_block (leaf_k image)) at g.linked.symbol_nodes member)

  abbrev V : ℕ → Node
  V = node_at image kind

  top : level_at image kind root ≡ g.linked.level
  top = level_is image kind root g.linked.level g.linked.owned g.linked.symbol_nodes g.linked.tree

  -- a child of a node of level l that is reached
  child_reached : (d l at c : ℕ) → d + l ≡ g.linked.level → In at (row_below V d (root ∷ [])) → IsReached image (GroupNode root heap l) at depth → In c (V at).children
      → IsReached image (if l == 0 then SymbolNode root heap else GroupNode root heap (l - 1)) c depth
  child_reached d l at c e row there child =
      let i = children_of image kind at c child in
      let node = row_node image kind root g.linked.level g.linked.owned g.linked.symbol_nodes g.linked.tree d l at e row in
      let low : i.0 < 2 * internal_k image = omega (arith, i.1, node.roomy) in
      let level : l ≤ highest_level = omega (arith, g.linked.tree.low, e) in
      let whole = node_inside at (row_owned image kind root g.linked.level g.linked.owned g.linked.symbol_nodes g.linked.tree d l at e row) in
      let below = if l == 0 then SymbolNode root heap else GroupNode root heap (l - 1) in
      let place = at + key_place kind i.0 + 8 in
      let y : Reached image (naming_of place below (child_in kind (node_bytes image kind at) i.0) depth)
      = by_block there.1 (level, (i.0, i.1, low, refl)) (omega (arith, low, whole)) in
      (place, subst (λ (a : ℕ). Reached image (naming_of place below a depth)) i.2 y)

  rows_reached : (d l at : ℕ) → d + l ≡ g.linked.level → In at (row_below V d (root ∷ [])) → IsReached image (GroupNode root heap l) at depth
  rows_reached zero l at e (inl same) =
      let level : level_at image kind root ≡ l = omega (arith, top, e) in
      subst (λ (a : ℕ). IsReached image (GroupNode root heap l) a depth) same
      (subst (λ (m : ℕ). IsReached image (GroupNode root heap m) root depth) level root_reached)
  rows_reached zero l at e (inr none) = absurd none
  rows_reached (suc d) l at e row =
      let by = from_flat (λ n. (V n).children) at (row_below V d (root ∷ [])) (subst (In at) (row_after V d (root ∷ [])) row) in
      let up : d + suc l ≡ g.linked.level = omega (arith, e) in
      let child = child_reached d (suc l) by.0 at up by.1 (rows_reached d (suc l) by.0 up by.1) by.2 in
      subst (λ (r : Role). IsReached image r at depth) (below_role image table tree placed reads l (SymbolNode root heap) (GroupNode root heap)) child

  symbols_reached : (at : ℕ) → In at g.linked.symbol_nodes → IsReached image (SymbolNode root heap) at depth
  symbols_reached at member =
      let bottom : In at (next_row V (row_below V g.linked.level (root ∷ [])))
      = subst (In at) (children_are image kind root g.linked.level g.linked.owned g.linked.symbol_nodes g.linked.tree) member in
      let by = from_flat (λ n. (V n).children) at (row_below V g.linked.level (root ∷ [])) bottom in
      let none : g.linked.level + 0 ≡ g.linked.level = omega arith in
      child_reached g.linked.level 0 by.0 at none by.1 (rows_reached g.linked.level 0 by.0 none by.1) by.2

  -- an entry that names a header
  pub entry_reached : (node i : ℕ) → In node g.linked.symbol_nodes → i < symbols_in (symbol_bytes image (leaf_k image) node) → (entry_in image node i).cache ≢ 2
      → Reached image (naming_of (node + 16 + 40 * i) ObjectHeader (entry_in image node i).header (depth + 1))
  entry_reached node i member low hard =
      let there = symbols_reached node member in
      let formed = in_all (λ a. IsSymbolNode (leaf_k image) (symbol_bytes image (leaf_k image) a)) node g.linked.symbol_nodes g.linked.formed member in
      let room : i < 2 * leaf_k image = omega (arith, low, formed.roomy) in
      by_block there.1 (i, low, room, hard, refl) (omega (arith, room, symbols_inside node member))
