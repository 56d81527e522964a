-- Where a group's blocks keep their bytes it has the names that it had, and its tree the room (File Format Specification 3.0, sections
-- III.A.1, III.B and III.D).
use Rattle.std.proofs.Common.{◌≡◌, ℕ, zero, suc, ◌+◌, ◌*◌, Bool, List, [], ◌∷◌, ◌++◌, length, map, slice_index, inl, refl, sym, ap, ◌∙◌, subst, arith}
use Rattle.std.specs.Cmp.Lexicographic.{slice_cmp}
use Rattle.std.specs.List.{AllByRecursion, Contains}
use Rattle.std.specs.Ordering.{is_lt, nat_cmp}
use Rattle.h5_bytes.specs.Blocks.{IsKept, Keeps}
use Rattle.h5_bytes.specs.declared.Block.{Block}
use Rattle.h5_bytes.specs.Texts.{text_at}
use Rattle.h5_bytes.proofs.BlockLaws.{all_append, all_left, all_right, all_so}
use Rattle.h5_model.specs.Format.Limits.{highest_level}
use Rattle.h5_laws.proofs.Lists.{In, all_in, in_all, in_flat}
use Rattle.h5_laws.proofs.Subtrees.{index_in}
use Rattle.h5_model.specs.Format.Addresses.{SymbolTable}
use Rattle.h5_model.specs.Format.Heap.{heap_blocks, segment_of}
use Rattle.h5_model.specs.Format.Links.{offset_in}
use Rattle.h5_model.specs.Format.Nodes.{Kind, group_kind, node_at, node_bytes, node_length, node_of, tree_blocks}
use Rattle.h5_model.specs.Format.Rows.{Node, Reading, leaves, next_row, nodes}
use Rattle.h5_model.specs.Format.Superblock.{internal_k, leaf_k}
use Rattle.h5_model.specs.Format.Symbols.{Target, entries_of, symbol_block, symbols_at}
use Rattle.h5_model.proofs.Frames.{heap-same, read-same}
use Rattle.h5_laws.proofs.Rows.{row_in_nodes}
use Rattle.h5_btree.specs.Descent.{IsWayTo}
use Rattle.h5_btree.specs.Insertion.{IsFullWay}
use Rattle.h5_btree.specs.declared.way.Step.{Step}
use Rattle.h5_btree.proofs.NodeLaws.{length-children, length-keys}
use Rattle.h5_btree.proofs.PlaceFound.{way_ends}
use Rattle.h5_btree.proofs.WaysDown.{first_ends}
use Rattle.h5_group.specs.LinkEdits.{IsFullFor}
use Rattle.h5_group.specs.Links.{HasNone, IsGroupRead}
use Rattle.h5_group.specs.Nodes.Trees.{kind_in}
use Rattle.h5_group.specs.Told.{blocks_told, nodes_told, symbol_nodes_told}
use Rattle.h5_group.specs.Ways.{behind_in}
use Rattle.h5_group.proofs.PutWays.{IsSameStep, full_kept, way_kept}
use Rattle.h5_group.proofs.ToldLaws.{links_told-same}

-- ---- the nodes of a way are those of the tree in which it goes down

module _ (V W : Reading) (behind : List ℕ → Bool) where
  abbrev pub IsSameNode : ℕ → Type 0
  IsSameNode n = W n ≡ V n

  pub steps_same : (level : ℕ) (row : List ℕ) (at : ℕ) (way : List Step) → In at row → AllByRecursion IsSameNode (nodes V level row)
      → IsWayTo W behind level at way → AllByRecursion (λ (step : Step). IsSameNode step.node) way
  steps_same zero row at way here same to =
      subst (AllByRecursion (λ (step : Step). IsSameNode step.node)) (sym to.2) (in_all IsSameNode at row same here, tt)
  steps_same (suc level) row at way here same to =
      let row_same = all_left IsSameNode row (nodes V level (next_row V row)) same in
      let first : W at ≡ V at = in_all IsSameNode at row row_same here in
      let child : ℕ = slice_index (W at).children to.0 in
      let there : In child (next_row V row)
      = in_flat (λ n. (V n).children) at child row here (subst (λ (n : Node). In child n.children) first (index_in (W at).children to.0 0 (to.2).child)) in
      let below = steps_same level (next_row V row) child to.1 there (all_right IsSameNode row (nodes V level (next_row V row)) same) to.3 in
      subst (AllByRecursion (λ (step : Step). IsSameNode step.node)) (sym to.4)
      (all_append (λ (step : Step). IsSameNode step.node) to.1 (record { node = at; place = to.0 } ∷ []) below (first, tt))

-- ---- a group whose blocks keep their bytes

module _ (old new : List ℕ) (leaf : leaf_k new ≡ leaf_k old) (internal : internal_k new ≡ internal_k old) (t : SymbolTable) (read : IsGroupRead old t)
    (kept : Keeps old new (blocks_told old t)) where
  -- has the names that it had
  pub none_same : (name : List ℕ) → HasNone old t name → HasNone new t name
  none_same name none target there =
      none target (subst (λ (links : List (List ℕ × Target)). Contains links (name, target)) (links_told-same old new leaf internal t read.linked kept) there)

  abbrev kind : Kind
  kind = kind_in old

  abbrev V : Reading
  V = node_at old kind

  abbrev W : Reading
  W = node_at new kind

  abbrev trees : List Block
  trees = tree_blocks kind (nodes_told old t)

  abbrev symbols : List Block
  symbols = map (symbol_block (leaf_k old)) (symbol_nodes_told old t)

  nodes_kept : Keeps old new (trees ++ symbols)
  nodes_kept = all_left (IsKept old new) (trees ++ symbols) (heap_blocks old t.heap) kept

  nodes_same : AllByRecursion (λ n. W n ≡ V n) (nodes_told old t)
  nodes_same = read-same old new (node_of kind) (node_length kind) (nodes_told old t) (all_left (IsKept old new) trees symbols nodes_kept)

  symbols_same : AllByRecursion (λ n. symbols_at new (leaf_k old) n ≡ symbols_at old (leaf_k old) n) (symbol_nodes_told old t)
  symbols_same =
      read-same old new entries_of (8 + 80 * leaf_k old) (symbol_nodes_told old t) (all_right (IsKept old new) trees symbols nodes_kept)

  segment_same : segment_of new t.heap ≡ segment_of old t.heap
  segment_same = (heap-same old new t.heap (all_right (IsKept old new) (trees ++ symbols) (heap_blocks old t.heap) kept)).1

  -- ---- and the room that it had for a name

  module _ (name : List ℕ) (f : IsFullFor new t name) where
    abbrev way : List Step
    way = f.step ∷ f.above

    abbrev was : List ℕ → Bool
    was = behind_in new t name

    abbrev now : List ℕ → Bool
    now = behind_in old t name

    sought : IsWayTo W was highest_level t.tree way
    sought = subst (λ (k : ℕ). IsWayTo (node_at new (group_kind k)) was highest_level t.tree way) internal f.sought

    root_high : (V t.tree).level ≡ highest_level
    root_high =
        let same : W t.tree ≡ V t.tree = in_all (IsSameNode V W was) t.tree (nodes_told old t) nodes_same (row_in_nodes V (V t.tree).level t.tree (t.tree ∷ []) (inl refl)) in
        ap (λ (n : Node). n.level) (sym same) ∙ subst (λ (k : ℕ). (node_at new (group_kind k) t.tree).level ≡ highest_level) internal f.high

    steps_kept : AllByRecursion (λ (step : Step). W step.node ≡ V step.node) way
    steps_kept =
        steps_same V W was highest_level (t.tree ∷ []) t.tree way (inl refl)
        (subst (λ (l : ℕ). AllByRecursion (λ n. W n ≡ V n) (nodes V l (t.tree ∷ []))) root_high nodes_same) sought

    step_kept : (step : Step) → W step.node ≡ V step.node → IsSameStep W V was now step
    step_kept step same =
        let bytes = node_bytes new kind step.node in
        let keys = length-keys kind bytes (W step.node) refl in
        let children = length-children kind bytes (W step.node) refl in (
          sym same,
          omega (arith, keys, children),
          all_in (λ key. now key ≡ was key) (W step.node).keys
              (λ key at. ap (λ (segment : List ℕ). is_lt (slice_cmp nat_cmp (text_at segment (offset_in key)) name)) (sym segment_same)),
        )

    way_there : IsWayTo V now highest_level t.tree way
    way_there =
        way_kept W V was now highest_level t.tree way sought
        (all_so (λ (step : Step). W step.node ≡ V step.node) (IsSameStep W V was now) way step_kept steps_kept)

    abbrev bottom : ℕ
    bottom = slice_index (V f.step.node).children f.step.place

    bottom_told : In bottom (symbol_nodes_told old t)
    bottom_told =
        subst (λ (l : ℕ). In bottom (leaves V l (t.tree ∷ []))) (sym root_high)
        (way_ends V now highest_level t.tree (V f.step.node) f.step.place (first_ends V now highest_level t.tree f.step f.above way_there))

    entries_there : length (symbols_at old (leaf_k old) bottom) ≡ 2 * leaf_k old
    entries_there =
        let own = subst (λ (k : ℕ). length (symbols_at new (leaf_k new) (slice_index (node_at new (group_kind k) f.step.node).children f.step.place)) ≡ 2 * leaf_k new) internal f.entries in
        let here = subst (λ (k : ℕ). length (symbols_at new k (slice_index (W f.step.node).children f.step.place)) ≡ 2 * k) leaf own in
        let there = subst (λ (n : Node). length (symbols_at new (leaf_k old) (slice_index n.children f.step.place)) ≡ 2 * leaf_k old) steps_kept.0 here in
        ap length (sym (in_all (λ n. symbols_at new (leaf_k old) n ≡ symbols_at old (leaf_k old) n) bottom (symbol_nodes_told old t) symbols_same bottom_told)) ∙ there

    pub full_same : IsFullFor old t name
    full_same = record {
      step = f.step;
      above = f.above;
      high = root_high;
      sought = way_there;
      nodes = full_kept old new kind way steps_kept (subst (λ (k : ℕ). IsFullWay new (group_kind k) way) internal f.nodes);
      entries = entries_there;
    }
