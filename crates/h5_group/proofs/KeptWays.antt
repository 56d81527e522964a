-- Ways down a group's tree that stay where its heap is edited, and where keys of its nodes give way.
use Rattle.std.proofs.Common.{◌≡◌, ℕ, ◌+◌, ◌*◌, ◌^◌, ◌<◌, Bool, true, false, List, [], ◌∷◌, ◌++◌, length, map, slice_index, refl, sym, ap, ◌∙◌, subst, arith, ◌==◌, if◌then◌else◌}
use Rattle.std.specs.List.{AllByRecursion, Contains, list_any}
use Rattle.h5_bytes.specs.Bytes.{undefined_address}
use Rattle.h5_bytes.specs.Blocks.{cover, Inside, IsKept, Keeps}
use Rattle.h5_bytes.specs.declared.Block.{Block}
use Rattle.h5_bytes.proofs.BlockLaws.{all_left, all_right, cover-append}
use Rattle.h5_model.specs.Format.Addresses.{SymbolTable}
use Rattle.h5_model.specs.Format.Superblock.{leaf_k}
use Rattle.h5_model.specs.Format.Heap.{heap_blocks}
use Rattle.h5_model.specs.Format.Nodes.{HasTree, Kind, group_kind, node_at, reading_of, tree_blocks}
use Rattle.h5_model.specs.Format.Rows.{Node, Reading, blank}
use Rattle.h5_model.specs.Format.Symbols.{Target, entries_of, symbol_block, symbols_at}
use Rattle.h5_model.proofs.RowLaws.{at_listed}
use Rattle.h5_model.proofs.Frames.{read-same}
use Rattle.h5_laws.proofs.Lists.{In, in_all, in_contains}
use Rattle.h5_space.specs.Moves.{Moves}
use Rattle.h5_space.specs.Space.{Space}
use Rattle.h5_btree.specs.Climb.{KeepsRows}
use Rattle.h5_btree.specs.Removal.{EndsInTree}
use Rattle.h5_btree.specs.declared.way.Step.{Step}
use Rattle.h5_btree.proofs.KeyedWays.{children-keyed, IsWay-keyed}
use Rattle.h5_btree.proofs.SplitSteps.{apart_then}
use Rattle.h5_btree.proofs.WayRows.{next_row-keyed, IsRow-keyed}
use Rattle.h5_group.specs.Edited.{IsGroupIn}
use Rattle.h5_group.specs.Nodes.Trees.{kind_in}
use Rattle.h5_group.specs.Told.{symbol_nodes_told}
use Rattle.h5_group.specs.Ways.{AreWaysKept}
use Rattle.h5_group.proofs.EditFrames.{internal_kept, leaf_kept, rest_kept}
use Rattle.h5_group.proofs.EntryWays.{below_kept, ends_kept, owned_same}
use Rattle.h5_group.proofs.ExactTrees.{keeps_kept, told_kept}
use Rattle.h5_group.proofs.ToldLaws.{symbol_nodes_are_told}
use Rattle.h5_group.proofs.Ways.{cover_parts, nodes_inside}

-- ---- one step after another

pub ways_then : (s t u : Space) (table : SymbolTable) → AreWaysKept s t table → AreWaysKept t u table → AreWaysKept s u table
ways_then s t u table first second = record {
  ways = λ way level owned list number e. second.ways way level owned list number (first.ways way level owned list number e);
  below = λ step above level owned list number e.
      second.below step above level owned list number (first.ways (step ∷ above) level owned list number e) ∙ first.below step above level owned list number e;
  told = second.told ∙ first.told;
  entries = λ node there. second.entries node (subst (λ (ns : List ℕ). Contains ns node) (sym first.told) there) ∙ first.entries node there;
}

-- ---- the heap is edited

module _ (s t : Space) (table : SymbolTable) (links : List (List ℕ × Target)) (spare : List ℕ) (blocks : List Block) (g : IsGroupIn s table links spare blocks)
    (moves : Moves s t (heap_blocks s.bytes table.heap) (heap_blocks s.bytes table.heap)) (free : t.free ≡ s.free) (size : length t.bytes ≡ length s.bytes) where
  abbrev kind : Kind
  kind = kind_in s.bytes

  abbrev leaf : ℕ
  leaf = leaf_k s.bytes

  abbrev owned : List ℕ
  owned = (g.linked).owned

  abbrev heap : List Block
  heap = heap_blocks s.bytes table.heap

  abbrev trees : List Block
  trees = tree_blocks kind owned

  abbrev symbols : List Block
  symbols = map (symbol_block leaf) (g.linked).symbol_nodes

  parted : (p : ℕ) → cover p blocks ≡ cover p (heap ++ (trees ++ symbols))
  parted p = let all = cover_parts s table links spare blocks g p in omega (arith, all, cover-append p heap (trees ++ symbols), cover-append p trees symbols)

  within : Inside (length s.bytes) (trees ++ symbols)
  within = nodes_inside s table links spare blocks g

  kept : Keeps s.bytes t.bytes (trees ++ symbols)
  kept = rest_kept s t table links spare blocks g heap heap (trees ++ symbols) moves parted within

  trees_kept : Keeps s.bytes t.bytes trees
  trees_kept = all_left (IsKept s.bytes t.bytes) trees symbols kept

  leaf_same : leaf_k t.bytes ≡ leaf
  leaf_same = leaf_kept s t table links spare blocks g heap heap (trees ++ symbols) moves parted within

  kind_same : kind_in t.bytes ≡ kind
  kind_same = ap group_kind (internal_kept s t table links spare blocks g heap heap (trees ++ symbols) moves parted within)

  module _ (way : List Step) (level : ℕ) (owned' list : List ℕ) (number : ℕ) (e : EndsInTree s kind table.tree level way owned' list number) where
    own_kept : Keeps s.bytes t.bytes (tree_blocks kind owned')
    own_kept = subst (λ (ns : List ℕ). Keeps s.bytes t.bytes (tree_blocks kind ns)) (sym (owned_same s table links spare blocks g level way owned' list number e)) trees_kept

    way_kept : EndsInTree t (kind_in t.bytes) table.tree level way owned' list number
    way_kept = subst (λ (k : Kind). EndsInTree t k table.tree level way owned' list number) (sym kind_same)
        (ends_kept s kind table.tree level way owned' list number e t own_kept free size)

    step_kept : AllByRecursion (λ (step : Step). node_at t.bytes kind step.node ≡ node_at s.bytes kind step.node) way
    step_kept = below_kept s kind table.tree level way owned' list number e t own_kept

  symbols_same : AllByRecursion (λ at. symbols_at t.bytes leaf at ≡ symbols_at s.bytes leaf at) (g.linked).symbol_nodes
  symbols_same = read-same s.bytes t.bytes entries_of (8 + 80 * leaf) (g.linked).symbol_nodes (all_right (IsKept s.bytes t.bytes) trees symbols kept)

  -- ALL WAYS STAY
  pub heap_ways_kept : AreWaysKept s t table
  heap_ways_kept = record {
    ways = way_kept;
    below = λ step above level owned' list number e.
        ap (λ (k : Kind). slice_index (node_at t.bytes k step.node).children step.place) kind_same
        ∙ ap (λ (o : Node). slice_index o.children step.place) (step_kept (step ∷ above) level owned' list number e).0;
    told = told_kept s.bytes t.bytes table leaf_same kind_same (g.linked).level owned (g.linked).symbol_nodes (g.linked).tree (keeps_kept s.bytes t.bytes kind owned trees_kept);
    entries = λ node there.
        ap (λ (l : ℕ). symbols_at t.bytes l node) leaf_same
        ∙ in_all (λ at. symbols_at t.bytes leaf at ≡ symbols_at s.bytes leaf at) node (g.linked).symbol_nodes symbols_same
        (subst (In node) (sym (symbol_nodes_are_told s.bytes table links blocks g.linked)) (in_contains node (symbol_nodes_told s.bytes table) there));
  }

-- ---- keys of nodes give way

-- a node has other keys alone
abbrev pub IsKeyed : Space → Space → Kind → ℕ → Type 0
IsKeyed s t kind n = (keys : List (List ℕ)) × (node_at t.bytes kind n ≡ record (node_at s.bytes kind n) { keys = keys })

module _ (s t : Space) (kind : Kind) (root level : ℕ) (way : List Step) (owned list : List ℕ) (k : ℕ) (e : EndsInTree s kind root level way owned list k)
    (keyed : AllByRecursion (IsKeyed s t kind) owned) (tree : HasTree t.bytes kind root level owned list)
    (moves : Moves s t (tree_blocks kind owned) (tree_blocks kind owned)) (short : length t.bytes < 2 ^ 64) where
  abbrev V : Reading
  V = reading_of s.bytes kind owned

  abbrev W : Reading
  W = reading_of t.bytes kind owned

  same_rows : KeepsRows V W
  same_rows m = go (list_any (λ i. i == m) owned) refl where
    go : (b : Bool) → list_any (λ i. i == m) owned ≡ b
        → (ks : List (List ℕ)) × ((if b then node_at t.bytes kind m else blank) ≡ record (if b then node_at s.bytes kind m else blank) { keys = ks })
    go false off = ([], refl)
    go true on = at_listed (IsKeyed s t kind) owned m keyed on

  -- the way ends in the tree still
  pub ends_keyed : EndsInTree t kind root level way owned list k
  ends_keyed = record {
    tree = tree;
    apart = apart_then s t (tree_blocks kind owned) (tree_blocks kind owned) moves e.apart;
    short = short;
    step = e.step;
    above = e.above;
    way_is = e.way_is;
    front = e.front;
    back = e.back;
    leads = IsWay-keyed V W same_rows 0 root e.above e.step.node e.front e.back e.leads;
    row = IsRow-keyed V W same_rows 0 undefined_address (e.front ++ e.step.node ∷ e.back) e.row;
    place = subst (λ (xs : List ℕ). e.step.place < length xs) (sym (children-keyed V W same_rows e.step.node)) e.place;
    number = e.number ∙ ap (λ (xs : List ℕ). length xs + e.step.place) (sym (next_row-keyed V W same_rows e.front));
  }
