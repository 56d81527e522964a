-- Ways down a tree of chunks: they end in it, at the chunk that is sought, where it is stored.
use Rattle.std.proofs.Common.{◌≡◌, ℕ, ◌+◌, ◌<◌, ◌≤◌, ◌^◌, List, [], ◌∷◌, ◌++◌, length, map, get_or, Option, None, IsSome, refl, sym, ap, ◌∙◌, subst, arith}
use Rattle.std.proofs.lemmas.Option.{slice_get-get_or}
use Rattle.std.specs.Ordering.{nat_cmp}
use Rattle.std.specs.declared.cmp.Ordering.{Ordering}
use Rattle.std.specs.declared.cmp.Ordering.TheVariants.{Equal, Greater, Less}
use Rattle.std.specs.Cmp.Lexicographic.{slice_cmp}
use Rattle.std.specs.FinMap.{get, values}
use Rattle.h5_bytes.specs.Blocks.{block, cover}
use Rattle.h5_bytes.proofs.BlockLaws.{cover-append}
use Rattle.h5_model.specs.Format.Chunks.{all_offsets_in, offsets_in}
use Rattle.h5_model.specs.Format.Nodes.{IsNode, Kind, node_at, node_bytes, node_length, tree_blocks}
use Rattle.h5_model.specs.Format.Reached.{Shape, level_at, shape_kind}
use Rattle.h5_model.specs.Format.Rows.{Node, Reading}
use Rattle.h5_model.proofs.RowLaws.{at_listed}
use Rattle.h5_space.specs.Space.{Space}
use Rattle.h5_space.specs.Whole.{IsApart}
use Rattle.h5_btree.specs.Descent.{EndsAt, IsWayTo}
use Rattle.h5_btree.specs.Removal.{EndsInTree}
use Rattle.h5_btree.specs.declared.way.Step.{Step}
use Rattle.h5_btree.proofs.ClimbSteps.{inside_of_apart}
use Rattle.h5_btree.proofs.WayInTree.{way_in_tree}
use Rattle.h5_btree.proofs.WayEnds.{end_here}
use Rattle.h5_btree.proofs.WaySteps.{first_owned}
use Rattle.h5_btree.proofs.WaysDown.{first_ends}
use Rattle.h5_chunks.specs.Edited.{AreChunksApart}
use Rattle.h5_chunks.specs.Told.{chunk_blocks_told, chunks_told}
use Rattle.h5_chunks.specs.Way.{chunk_behind}
use Rattle.h5_chunks.proofs.ChunkFound.{heads, key_is_chunk, chunk_absent, key_low, stored_there, top}

-- ---- the node at the end of a way

module _ (s : Space) (kind : Kind) (root level : ℕ) (way : List Step) (owned list : List ℕ) (k : ℕ) (e : EndsInTree s kind root level way owned list k) where
  abbrev p : ℕ
  p = (e.step).node

  -- a node stands there, and has that child
  pub end_stands : (p + node_length kind ≤ length s.bytes) × IsNode kind (node_bytes s.bytes kind p) × ((e.step).place < length (node_at s.bytes kind p).children)
  end_stands =
      let listed = first_owned s kind root level way owned list k e in (
        inside_of_apart s kind owned e.apart p listed,
        at_listed (λ at. IsNode kind (node_bytes s.bytes kind at)) owned p (e.tree).formed listed,
        subst (λ (o : Node). (e.step).place < length o.children) (end_here s kind root level way owned list k e) e.place,
      )

-- ---- in a tree of chunks

module _ (s : Space) (shape : Shape) (root : ℕ) (chunks : AreChunksApart s shape root) where
  abbrev kind : Kind
  kind = shape_kind s.bytes shape

  abbrev V : Reading
  V = node_at s.bytes kind

  abbrev level : ℕ
  level = ((chunks.read).stored).level

  abbrev owned : List ℕ
  owned = ((chunks.read).stored).owned

  abbrev list : List ℕ
  list = values (chunks_told s.bytes shape root)

  abbrev pub ChunkWay : List Step → ℕ → Type 0
  ChunkWay way k = EndsInTree s kind root level way owned list k

  -- its blocks, one after another
  pub chunks_cover : (p : ℕ) → cover p (chunk_blocks_told s.bytes shape root) ≡ cover p (tree_blocks kind owned) + cover p (map (λ (at : ℕ). block at shape.bytes) list)
  chunks_cover p =
      let all = ap (cover p) ((chunks.read).stored).laid in
      omega (arith, all, cover-append p (tree_blocks kind owned) (map (λ (at : ℕ). block at shape.bytes) list))

  nodes_apart : IsApart (tree_blocks kind owned) s.free (length s.bytes)
  nodes_apart p = omega (arith, chunks.apart p, chunks_cover p)

  module _ (short : length s.bytes < 2 ^ 64) (offsets : List ℕ) (way : List Step) (to : IsWayTo V (chunk_behind offsets) (level_at s.bytes kind root) root way) where
    own_way : IsWayTo V (chunk_behind offsets) level root way
    own_way = subst (λ (l : ℕ). IsWayTo V (chunk_behind offsets) l root way) (top s.bytes shape root chunks.read) to

    -- the way ends in the tree
    pub way_leads : (k : ℕ) × ChunkWay way k
    way_leads = way_in_tree s kind root level owned list (chunk_behind offsets) way (stored_there s.bytes shape root chunks.read) nodes_apart short own_way

    module _ (same : length offsets ≡ length shape.sizes) (there : IsSome (get (chunks_told s.bytes shape root) offsets))
        (step : Step) (above : List Step) (is : way ≡ step ∷ above) where
      ends : EndsAt V (chunk_behind offsets) (level_at s.bytes kind root) root (V step.node) step.place
      ends = first_ends V (chunk_behind offsets) (level_at s.bytes kind root) root step above
          (subst (IsWayTo V (chunk_behind offsets) (level_at s.bytes kind root) root) is to)

      abbrev key : List ℕ
      key = get_or (V step.node).keys step.place []

      missing : get (chunks_told s.bytes shape root) offsets ≡ None → ⊥
      missing none = let never : IsSome {T = ℕ} None = subst (λ (o : Option ℕ). IsSome o) none there in absurd (cc)

      -- and the key at its end has these offsets, where a chunk is stored there
      pub key_has : offsets_in (length shape.sizes) key ≡ offsets
      key_has = by_order (slice_cmp nat_cmp (all_offsets_in (length shape.sizes) key) (offsets ++ 0 ∷ [])) refl where
        other : (key_is_chunk (length shape.sizes) key offsets same → ⊥) → ⊥
        other not =
            missing (chunk_absent s.bytes shape root chunks.read offsets same (V step.node) step.place ends key
            (slice_get-get_or (V step.node).keys step.place [] (key_low s.bytes shape root chunks.read offsets same (V step.node) step.place ends)) not)

        by_order : (r : Ordering) → slice_cmp nat_cmp (all_offsets_in (length shape.sizes) key) (offsets ++ 0 ∷ []) ≡ r → offsets_in (length shape.sizes) key ≡ offsets
        by_order Equal is = heads (length shape.sizes) key offsets same is
        by_order Less is = absurd (other (λ tied. let never : Less ≡ Equal = sym is ∙ tied in cc))
        by_order Greater is = absurd (other (λ tied. let never : Greater ≡ Equal = sym is ∙ tied in cc))
