-- A way down a tree of chunks that was read: where it ends, and whether it leaves no room for a chunk.
use Rattle.std.proofs.Common.{◌≡◌, ℕ, suc, ◌+◌, ◌^◌, ◌<◌, ◌≤◌, Bool, List, length, map, sym, ap, subst, arith}
use Rattle.std.specs.FinMap.{values}
use Rattle.std.specs.List.{AllByRecursion}
use Rattle.h5_bytes.specs.Blocks.{block, cover, holds}
use Rattle.h5_bytes.proofs.BlockLaws.{all_so, cover-append}
use Rattle.h5_model.specs.Format.Limits.{highest_level}
use Rattle.h5_model.specs.Format.Nodes.{Kind, node_at, tree_blocks}
use Rattle.h5_model.specs.Format.Reached.{Shape, level_at, shape_kind}
use Rattle.h5_model.specs.Format.Rows.{Reading}
use Rattle.h5_model.proofs.RowLaws.{at_listed}
use Rattle.h5_laws.specs.ChunkLadders.{chunk_lists, rising_chunk_sides}
use Rattle.h5_laws.specs.Ladders.{IsOrderedBy}
use Rattle.h5_space.specs.Space.{Space}
use Rattle.h5_space.specs.Whole.{IsApart}
use Rattle.h5_btree.specs.Descent.{IsWayTo}
use Rattle.h5_btree.specs.Insertion.{IsFullWay}
use Rattle.h5_btree.specs.Removal.{EndsInTree}
use Rattle.h5_btree.specs.declared.way.Step.{Step}
use Rattle.h5_btree.proofs.TreeReadings.{Listed}
use Rattle.h5_btree.proofs.WayInTree.{way_in_tree}
use Rattle.h5_btree.proofs.WaySteps.{way_owned}
use Rattle.h5_btree.proofs.WaysDown.{way_long}
use Rattle.h5_chunks.specs.Edited.{IsFullAt}
use Rattle.h5_chunks.specs.Read.{AreChunksRead}
use Rattle.h5_chunks.specs.Told.{chunk_blocks_told, chunks_told}
use Rattle.h5_chunks.specs.Way.{chunk_behind}
use Rattle.h5_chunks.proofs.ChunkFound.{each_rises, stored_there, top}
use Rattle.h5_chunks.proofs.SoughtWays.{IsRisingNode, IsRisingStep, behind_at, behind_same, chunk_way}

module _ (s : Space) (shape : Shape) (root : ℕ) (read : AreChunksRead s.bytes shape root)
    (apart : (p : ℕ) → cover p (chunk_blocks_told s.bytes shape root) + cover p s.free ≤ holds p 0 (length s.bytes)) (short : length s.bytes < 2 ^ 64) where
  abbrev kind : Kind
  kind = shape_kind s.bytes shape

  abbrev V : Reading
  V = node_at s.bytes kind

  abbrev rank : ℕ
  rank = length shape.sizes

  abbrev level : ℕ
  level = (read.stored).level

  abbrev owned : List ℕ
  owned = (read.stored).owned

  pub trees_apart : IsApart (tree_blocks (shape_kind s.bytes shape) (read.stored).owned) s.free (length s.bytes)
  trees_apart p =
      let laid = ap (cover p) (read.stored).laid in
      omega (arith, apart p, laid, cover-append p (tree_blocks kind owned) (map (λ (at : ℕ). block at shape.bytes) (values (chunks_told s.bytes shape root))))

  module _ (offsets : List ℕ) (same : length offsets ≡ length shape.sizes) where
    -- a way that was found, by the tree's own level
    pub own_way : (way : List Step) → IsWayTo (node_at s.bytes (shape_kind s.bytes shape)) (chunk_behind offsets) (level_at s.bytes (shape_kind s.bytes shape) root) root way
        → IsWayTo (node_at s.bytes (shape_kind s.bytes shape)) (behind_at (length shape.sizes) offsets) (read.stored).level root way
    own_way way to =
        subst (λ (b : List ℕ → Bool). IsWayTo V b level root way) (behind_same rank offsets same)
        (subst (λ (l : ℕ). IsWayTo V (chunk_behind offsets) l root way) (top s.bytes shape root read) to)

    module _ (way : List Step) (to : IsWayTo (node_at s.bytes (shape_kind s.bytes shape)) (chunk_behind offsets) (level_at s.bytes (shape_kind s.bytes shape) root) root way) where
      -- it ends in the tree
      pub own_ends : (k : ℕ) × EndsInTree s (shape_kind s.bytes shape) root (read.stored).level way (read.stored).owned (values (chunks_told s.bytes shape root)) k
      own_ends = way_in_tree s kind root level owned (values (chunks_told s.bytes shape root)) (behind_at rank offsets) way (stored_there s.bytes shape root read)
          trees_apart short (own_way way to)

      long : length way ≡ suc (level_at s.bytes (shape_kind s.bytes shape) root)
      long = way_long V (chunk_behind offsets) (level_at s.bytes kind root) root way to

      -- and has 16 steps at most
      pub few_steps : length way ≤ 16
      few_steps =
          let low = (stored_there s.bytes shape root read).low in
          let is = top s.bytes shape root read in
          let n = long in
          omega (arith, n, is, low)

      pub full_of : length way ≡ 16 → IsFullWay s.bytes (shape_kind s.bytes shape) way → IsFullAt s.bytes shape root offsets
      full_of all full =
          let n = long in
          let high : level_at s.bytes kind root ≡ highest_level = omega (arith, n, all) in
          record { way = way; high = high; sought = subst (λ (l : ℕ). IsWayTo V (chunk_behind offsets) l root way) high to; nodes = full }

      steps_rise : AllByRecursion (IsRisingStep rank V offsets) way
      steps_rise =
          let rises = all_so (λ at. IsOrderedBy (rising_chunk_sides rank) V (chunk_lists rank) (V at)) (λ at. IsRisingNode rank (V at)) owned (λ at o. o.rising)
          (each_rises s.bytes shape root read) in
          all_so (λ (step : Step). Listed owned step.node) (IsRisingStep rank V offsets) way (λ step at. at_listed (λ n. IsRisingNode rank (V n)) owned step.node rises at) (way_owned s kind root level way owned (values (chunks_told s.bytes shape root)) own_ends.0 own_ends.1)

      -- there is no other way
      pub of_full : IsFullAt s.bytes shape root offsets → IsFullWay s.bytes (shape_kind s.bytes shape) way
      of_full f =
          let there : IsWayTo V (chunk_behind offsets) (level_at s.bytes kind root) root f.way
          = subst (λ (l : ℕ). IsWayTo V (chunk_behind offsets) l root f.way) (sym f.high) f.sought in
          let one : way ≡ f.way = chunk_way rank V offsets level root way f.way (own_way way to) (own_way f.way there) steps_rise in
          subst (IsFullWay s.bytes kind) (sym one) f.nodes
