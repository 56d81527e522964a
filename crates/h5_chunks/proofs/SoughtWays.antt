-- The ways down a tree of chunks: there is one at most to the chunk at some offsets (File Format Specification 3.0, section III.A.1).
use Rattle.std.proofs.Common.{◌≡◌, ℕ, zero, suc, ◌+◌, ◌<◌, ◌≤◌, Bool, List, [], ◌∷◌, ◌++◌, length, slice_index, slice_index_or, refl, sym, ap, subst, arith}
use Rattle.std.specs.Cmp.Lexicographic.{slice_cmp}
use Rattle.std.specs.List.{AllByRecursion}
use Rattle.std.specs.Ordering.{is_le, nat_cmp}
use Rattle.h5_bytes.proofs.BlockLaws.{all_left, all_right, all_so}
use Rattle.h5_model.specs.Format.Chunks.{all_offsets_in}
use Rattle.h5_model.specs.Format.Links.{NotAfter}
use Rattle.h5_model.specs.Format.Nodes.{entries_in, node_at, node_bytes}
use Rattle.h5_model.specs.Format.Reached.{Shape, shape_kind}
use Rattle.h5_model.specs.Format.Rows.{Node, Reading}
use Rattle.h5_laws.specs.Ladders.{IsOrderly}
use Rattle.h5_laws.specs.ChunkLadders.{rising_chunk_sides}
use Rattle.h5_laws.proofs.ChunkLadders.{chunk_order}
use Rattle.h5_space.specs.Space.{Space}
use Rattle.h5_btree.specs.Descent.{IsChildFor, IsWayTo}
use Rattle.h5_btree.specs.Removal.{EndsSomewhere}
use Rattle.h5_btree.specs.Walk.Forms.{OfChunks}
use Rattle.h5_btree.specs.Walk.Stands.{IsNodeAt}
use Rattle.h5_btree.specs.declared.way.Step.{Step}
use Rattle.h5_btree.proofs.NodeLaws.{length-children}
use Rattle.h5_btree.proofs.WaySteps.{IsStep, way_places, way_there}
use Rattle.h5_btree.proofs.WaysDown.{FallsAt, one_way}
use Rattle.h5_chunks.specs.Way.{chunk_behind}

-- ---- a way that stays

-- what is read at each step is the same, and so the way is one there too
pub way_moved : (V W : Reading) (behind : List ℕ → Bool) (level at : ℕ) (way : List Step) → IsWayTo V behind level at way
    → AllByRecursion (λ (step : Step). W step.node ≡ V step.node) way → IsWayTo W behind level at way
way_moved V W behind zero at way to all =
    let same = (subst (AllByRecursion (λ (step : Step). W step.node ≡ V step.node)) to.2 all).0 in
    (to.0, subst (λ (n : Node). IsChildFor behind n to.0) (sym same) to.1, to.2)
way_moved V W behind (suc level) at way to all =
    let last : List Step = record { node = at; place = to.0 } ∷ [] in
    let parts : AllByRecursion (λ (step : Step). W step.node ≡ V step.node) (to.1 ++ last) = subst (AllByRecursion (λ (step : Step). W step.node ≡ V step.node)) to.4 all in
    let same = (all_right (λ (step : Step). W step.node ≡ V step.node) to.1 last parts).0 in
    let below = way_moved V W behind level (slice_index (V at).children to.0) to.1 to.3 (all_left (λ (step : Step). W step.node ≡ V step.node) to.1 last parts) in (
      to.0,
      to.1,
      subst (λ (n : Node). IsChildFor behind n to.0) (sym same) to.2,
      subst (λ (n : Node). IsWayTo W behind level (slice_index n.children to.0) to.1) (sym same) below,
      to.4,
    )

-- ---- an image in which a way ends has a node at least

pub long_by_way : (s : Space) (shape : Shape) (way : List Step) → EndsSomewhere s (shape_kind s.bytes shape) way → 26 ≤ length s.bytes
long_by_way s shape way (root, level, owned, list, k, e) =
    let kind = shape_kind s.bytes shape in
    let there = (subst (AllByRecursion (IsStep s kind)) e.way_is (way_there s kind root level way owned list k e)).0 in
    let inside = there.0 in
    omega (arith, inside)

-- the node at the first step of a way
module _ (s : Space) (shape : Shape) (way : List Step) (ends : EndsSomewhere s (shape_kind s.bytes shape) way) (step : Step) (above : List Step) (is : way ≡ step ∷ above) where
  pub first_stands : IsNodeAt s.bytes (OfChunks shape) step.node
  first_stands =
      let kind = shape_kind s.bytes shape in
      let (root, level, owned, list, k, e) = ends in
      let there = (subst (AllByRecursion (IsStep s kind)) is (way_there s kind root level way owned list k e)).0 in
      record { formed = there.1; inside = there.0 }

  pub first_place : step.place < length (node_at s.bytes (shape_kind s.bytes shape) step.node).children
  first_place =
      let kind = shape_kind s.bytes shape in
      let (root, level, owned, list, k, e) = ends in
      let low = (subst (AllByRecursion (λ (st : Step). st.place < entries_in (node_bytes s.bytes kind st.node))) is (way_places s kind root level way owned list k e)).0 in
      let count = length-children kind (node_bytes s.bytes kind step.node) (node_at s.bytes kind step.node) refl in
      omega (arith, low, count)

-- ---- the order of keys

-- whether the chunk at these offsets stands behind a key of a tree of so many dimensions
abbrev pub behind_at : ℕ → List ℕ → List ℕ → Bool
behind_at rank offsets key = is_le (slice_cmp nat_cmp (all_offsets_in rank key) (offsets ++ 0 ∷ []))

pub behind_same : (rank : ℕ) (offsets : List ℕ) → length offsets ≡ rank → chunk_behind offsets ≡ behind_at rank offsets
behind_same rank offsets same = ap (λ (n : ℕ). behind_at n offsets) same

-- ---- one way at most

module _ (rank : ℕ) where
  -- no key of the node is above the next
  abbrev pub IsRisingNode : Node → Type 0
  IsRisingNode node = (i : ℕ) → i < length node.children → NotAfter (all_offsets_in rank (slice_index_or node.keys i [])) (all_offsets_in rank (slice_index_or node.keys (i + 1) []))

  module _ (V : Reading) (offsets : List ℕ) where
    abbrev pub IsRisingStep : Step → Type 0
    IsRisingStep step = IsRisingNode (V step.node)

    orderly : IsOrderly (rising_chunk_sides rank)
    orderly = chunk_order rank

    falls : (step : Step) → IsRisingStep step → FallsAt (behind_at rank offsets) V step
    falls step rising i low on =
        let key = λ (n : ℕ). slice_index_or (V step.node).keys n [] in
        orderly.right (key i) (key (i + 1)) (offsets, 0) (rising i low) on

    pub chunk_way : (level at : ℕ) (way way' : List Step) → IsWayTo V (behind_at rank offsets) level at way → IsWayTo V (behind_at rank offsets) level at way'
        → AllByRecursion IsRisingStep way → way ≡ way'
    chunk_way level at way way' to to' all =
        one_way (behind_at rank offsets) V level at way way' to to' (all_so IsRisingStep (FallsAt (behind_at rank offsets) V) way falls all)
