-- A tree of chunks that lets in a chunk: end keys of the nodes on a way gave way, and all chunks stay.
use Rattle.std.proofs.Common.{◌≡◌, ◌≢◌, ℕ, suc, ◌*◌, ◌≤◌, true, false, List, [], ◌∷◌, ◌++◌, length, take, drop, get_or, refl, sym, ap, ◌∙◌, subst, arith}
use Rattle.std.specs.List.{AllByRecursion}
use Rattle.h5_bytes.specs.Blocks.{cover}
use Rattle.h5_model.specs.Format.Chunks.{all_offsets_in}
use Rattle.h5_model.specs.Format.Links.{Before, NotAfter}
use Rattle.h5_model.specs.Format.Nodes.{Kind, node_at, tree_blocks}
use Rattle.h5_model.specs.Format.Reached.{Shape}
use Rattle.h5_model.specs.Format.Rows.{Node, Reading}
use Rattle.h5_laws.specs.ChunkLadders.{rising_chunk_sides}
use Rattle.h5_laws.proofs.ChunkLadders.{chunk_order}
use Rattle.h5_laws.proofs.KeyInserts.{all_from_both}
use Rattle.h5_space.specs.Moves.{Moves}
use Rattle.h5_space.specs.Space.{Space}
use Rattle.h5_btree.specs.Insertion.{IsFullWay, KeepsEntries, Owns}
use Rattle.h5_btree.specs.Keyed.{items_of_tree}
use Rattle.h5_btree.specs.Removal.{EndsInTree}
use Rattle.h5_btree.specs.Widened.{AreWidened, IsWidened, end_at, ends_along, way_blocks, widened_node}
use Rattle.h5_btree.specs.declared.way.Step.{Step}
use Rattle.h5_btree.proofs.ClimbSteps.{covers}
use Rattle.h5_btree.proofs.KeyedEases.{IsEased, eased_sorted}
use Rattle.h5_btree.proofs.KeyedOwn.{keys_count}
use Rattle.h5_btree.proofs.TreeReadings.{Listed}
use Rattle.h5_btree.proofs.WaySteps.{way_owned}
use Rattle.h5_btree.proofs.WaysDown.{IsChosen}
use Rattle.h5_chunks.proofs.SoughtWays.{behind_at}
use Rattle.h5_chunks.proofs.KeyedTold.{IsKeyedChunk, IsOrderedTree, chunk_of, keyed_at}
use Rattle.h5_chunks.proofs.WidenedNode.{gives_way, high_now, keys_now, left_there, low_now, low_there, right_there}

-- with more blocks that are used before and after
pub moves_wider : (s t : Space) (kind : Kind) (owned : List ℕ) (way : List Step) → AllByRecursion (λ (step : Step). Listed owned step.node) way
    → Moves s t (way_blocks kind way) (way_blocks kind way) → Moves s t (tree_blocks kind owned) (tree_blocks kind owned)
moves_wider s t kind owned way listed m = record {
  grown = m.grown;
  kept = λ p low none free. m.kept p low (covered way listed p none) free;
  moved = λ p. let is = m.moved p in omega (arith, is);
} where
  covered : (steps : List Step) → AllByRecursion (λ (step : Step). Listed owned step.node) steps → (p : ℕ) → cover p (tree_blocks kind owned) ≡ 0 → cover p (way_blocks kind steps) ≡ 0
  covered [] all p none = refl
  covered (step ∷ steps) all p none =
      let here = covers kind owned step.node p all.0 in
      let rest = covered steps all.1 p none in
      omega (arith, here, rest, none)

module _ (V : Reading) (new : List ℕ) (kind : Kind) (rank : ℕ) (offsets low high : List ℕ) where
  abbrev IsWide : Step → Type 0
  IsWide step = node_at new kind step.node ≡ widened_node (end_at V (behind_at rank offsets) true step) low high (V step.node)

wide_each : (old new : List ℕ) (kind : Kind) (rank : ℕ) (offsets low high : List ℕ) (way : List Step)
    → AreWidened old new kind way (ends_along (node_at old kind) (behind_at rank offsets) 0 way) low high → AllByRecursion (IsWide (node_at old kind) new kind rank offsets low high) way
wide_each old new kind rank offsets low high [] are = tt
wide_each old new kind rank offsets low high (step ∷ way) are = (are.0, wide_each old new kind rank offsets low high way are.1)

module _ (kind : Kind) (some : 1 ≤ kind.k) (s t : Space) (shape : Shape) (offsets : List ℕ) (root level : ℕ) (way : List Step) (owned list : List ℕ) (k : ℕ)
    (e : EndsInTree s kind root level way owned list k) (low high : List ℕ)
    (tree : (root height k : ℕ) (owned list : List ℕ) → EndsInTree s kind root height way owned list k
    → EndsInTree t kind root height way owned list k)
    (wide : IsWidened s t kind way (ends_along (node_at s.bytes kind) (behind_at (length shape.sizes) offsets) 1 way) low high)
    (others : (root height k : ℕ) (owned list : List ℕ) → EndsInTree s kind root height way owned list k
    → (n : ℕ) → Owns owned n → AllByRecursion (λ (step : Step). n ≢ step.node) way → node_at t.bytes kind n ≡ node_at s.bytes kind n)
    (chosen : AllByRecursion (IsChosen (node_at s.bytes kind) (behind_at (length shape.sizes) offsets)) way)
    (own : all_offsets_in (length shape.sizes) low ≡ offsets ++ 0 ∷ []) (past : Before (offsets ++ 0 ∷ []) (all_offsets_in (length shape.sizes) high)) where
  abbrev rank : ℕ
  rank = length shape.sizes

  abbrev V : Reading
  V = node_at s.bytes kind

  abbrev W : Reading
  W = node_at t.bytes kind

  pub ends_now : EndsInTree t kind root level way owned list k
  ends_now = tree root level k owned list e

  along : AreWidened s.bytes t.bytes kind (e.step ∷ e.above) (ends_along V (behind_at rank offsets) 1 (e.step ∷ e.above)) low high
  along = subst (λ (steps : List Step). AreWidened s.bytes t.bytes kind steps (ends_along V (behind_at rank offsets) 1 steps) low high) e.way_is wide.keys

  first_wide : W (e.step).node ≡ widened_node (end_at V (behind_at rank offsets) false e.step) low high (V (e.step).node)
  first_wide = along.0

  above_wide : AllByRecursion (IsWide V t.bytes kind rank offsets low high) e.above
  above_wide = wide_each s.bytes t.bytes kind rank offsets low high e.above along.1

  choices : AllByRecursion (IsChosen V (behind_at rank offsets)) (e.step ∷ e.above)
  choices = subst (AllByRecursion (IsChosen V (behind_at rank offsets))) e.way_is chosen

  keeps : (n : ℕ) → Owns owned n → AllByRecursion (λ (step : Step). n ≢ step.node) way → KeepsEntries s.bytes t.bytes kind n
  keeps n owns apart =
      let same = others root level k owned list e n owns apart in
      (ap (λ (o : Node). o.keys) same, ap (λ (o : Node). o.children) same, ap (λ (o : Node). o.level) same)

  abbrev Eased : Step → Type 0
  Eased = IsEased (rising_chunk_sides rank) (chunk_order rank) (chunk_of rank) (IsKeyedChunk shape) (offsets, 0) s t kind root level way owned list k e some keeps keyed_at

  -- ---- the node of level 0

  first_keys : (W (e.step).node).keys
      ≡ take (e.step).place (V (e.step).node).keys
      ++ low_now rank offsets (V (e.step).node) (e.step).place choices.0 (keys_count s.bytes kind (e.step).node) false low high own past
      ∷ high_now rank offsets (V (e.step).node) (e.step).place choices.0 (keys_count s.bytes kind (e.step).node) false low high own past
      ∷ drop (suc (suc (e.step).place)) (V (e.step).node).keys
  first_keys = ap (λ (o : Node). o.keys) first_wide ∙ keys_now rank offsets (V (e.step).node) (e.step).place choices.0 (keys_count s.bytes kind (e.step).node) false low high own past

  first_eased : Eased e.step
  first_eased =
      let n = V (e.step).node in
      let i = (e.step).place in
      let long = keys_count s.bytes kind (e.step).node in (
        low_now rank offsets n i choices.0 long false low high own past,
        high_now rank offsets n i choices.0 long false low high own past,
        first_keys,
        ap (λ (o : Node). o.children) first_wide,
        gives_way rank offsets n i choices.0 long false low high own past shape,
      )

  -- its key before the child stays, and the chunk is below the one behind it
  pub first_low : get_or (node_at t.bytes kind (e.step).node).keys (e.step).place [] ≡ get_or (node_at s.bytes kind (e.step).node).keys (e.step).place []
  first_low = low_there rank offsets (V (e.step).node) (e.step).place choices.0 (keys_count s.bytes kind (e.step).node) false low high own past (W (e.step).node) first_keys

  pub first_left : Before (offsets ++ 0 ∷ []) (all_offsets_in (length shape.sizes) (get_or (node_at t.bytes kind (e.step).node).keys (suc (e.step).place) []))
  first_left = left_there rank offsets (V (e.step).node) (e.step).place choices.0 (keys_count s.bytes kind (e.step).node) false low high own past (W (e.step).node) first_keys

  pub first_children : (node_at t.bytes kind (e.step).node).children ≡ (node_at s.bytes kind (e.step).node).children
  first_children = ap (λ (o : Node). o.children) first_wide

  -- ---- the nodes above

  eases : (step : Step) → IsWide V t.bytes kind rank offsets low high step → IsChosen V (behind_at rank offsets) step → Eased step
  eases step is choice =
      let long = keys_count s.bytes kind step.node in (
        low_now rank offsets (V step.node) step.place choice long true low high own past,
        high_now rank offsets (V step.node) step.place choice long true low high own past,
        ap (λ (o : Node). o.keys) is ∙ keys_now rank offsets (V step.node) step.place choice long true low high own past,
        ap (λ (o : Node). o.children) is,
        gives_way rank offsets (V step.node) step.place choice long true low high own past shape,
      )

  abbrev Admits : Step → Type 0
  Admits step = NotAfter (all_offsets_in rank (get_or (W step.node).keys step.place [])) (offsets ++ 0 ∷ [])
      × Before (offsets ++ 0 ∷ []) (all_offsets_in rank (get_or (W step.node).keys (suc step.place) []))

  admit : (step : Step) → IsWide V t.bytes kind rank offsets low high step → IsChosen V (behind_at rank offsets) step → Admits step
  admit step is choice =
      let long = keys_count s.bytes kind step.node in
      let keys = ap (λ (o : Node). o.keys) is ∙ keys_now rank offsets (V step.node) step.place choice long true low high own past in (
        right_there rank offsets (V step.node) step.place choice long true low high own past (W step.node) keys refl,
        left_there rank offsets (V step.node) step.place choice long true low high own past (W step.node) keys,
      )

  pub admits : AllByRecursion (λ (step : Step). NotAfter (all_offsets_in (length shape.sizes) (get_or (node_at t.bytes kind step.node).keys step.place [])) (offsets ++ 0 ∷ [])
      × Before (offsets ++ 0 ∷ []) (all_offsets_in (length shape.sizes) (get_or (node_at t.bytes kind step.node).keys (suc step.place) []))) e.above
  admits = all_from_both (IsWide V t.bytes kind rank offsets low high) (IsChosen V (behind_at rank offsets)) Admits e.above admit above_wide choices.1

  -- ---- the tree

  both : IsOrderedTree kind s.bytes shape root level owned list e.tree → IsOrderedTree kind t.bytes shape root level owned list ends_now.tree
      × (items_of_tree (chunk_of rank) t.bytes kind keyed_at level root ≡ items_of_tree (chunk_of rank) s.bytes kind keyed_at level root)
  unfolding first_eased
  both = eased_sorted (rising_chunk_sides rank) (chunk_order rank) (chunk_of rank) (IsKeyedChunk shape) (offsets, 0) s t kind root level way owned list k e some keeps keyed_at
      first_eased (all_from_both (IsWide V t.bytes kind rank offsets low high) (IsChosen V (behind_at rank offsets)) Eased e.above eases above_wide choices.1) refl

  -- ITS KEYS ARE IN ORDER STILL, and all chunks stay
  pub ordered_now : IsOrderedTree kind s.bytes shape root level owned list e.tree → IsOrderedTree kind t.bytes shape root level owned list ends_now.tree
  ordered_now ordered = (both ordered).0

  pub items_now : IsOrderedTree kind s.bytes shape root level owned list e.tree
      → items_of_tree (chunk_of (length shape.sizes)) t.bytes kind keyed_at level root
      ≡ items_of_tree (chunk_of (length shape.sizes)) s.bytes kind keyed_at level root
  items_now ordered = (both ordered).1

  pub moves_now : Moves s t (tree_blocks kind owned) (tree_blocks kind owned)
  moves_now = moves_wider s t kind owned way (way_owned s kind root level way owned list k e) wide.moves

  -- each node on the way is as full as it was
  abbrev IsFull : Reading → Step → Type 0
  IsFull U step = length (U step.node).children ≡ 2 * kind.k

  pub full_before : IsFullWay t.bytes kind way → IsFullWay s.bytes kind way
  full_before full =
      let all = subst (AllByRecursion (IsFull W)) e.way_is full in
      subst (AllByRecursion (IsFull V)) (sym e.way_is) (
        ap (λ (ns : List ℕ). length ns) (sym first_children) ∙ all.0,
        all_from_both (IsWide V t.bytes kind rank offsets low high) (IsFull W) (IsFull V) e.above (λ step is there. sym (ap (λ (o : Node). length o.children) is) ∙ there) above_wide all.1,
      )
