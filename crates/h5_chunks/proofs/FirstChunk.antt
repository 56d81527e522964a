-- The first chunk of a tree of chunks that was read: the root's only child, between its own key and a key past it (File Format Specification
-- 3.0, section III.A.1).
use Rattle.std.proofs.Common.{◌≡◌, ℕ, ◌^◌, ◌<◌, ◌≤◌, List, [], ◌∷◌, ◌++◌, length, map, refl, sym, ap, ◌∙◌, subst, arith}
use Rattle.std.specs.FinMap.{entries, values}
use Rattle.h5_bytes.specs.Blocks.{block, cover}
use Rattle.h5_model.specs.Format.Chunks.{IsChunkKey, all_offsets_in, offsets_in}
use Rattle.h5_model.specs.Format.Links.{Before, NotAfter}
use Rattle.h5_model.specs.Format.Nodes.{HasTree, Kind, node_at, tree_blocks}
use Rattle.h5_model.specs.Format.Reached.{Shape, shape_kind}
use Rattle.h5_model.proofs.TextOrder.{before_le, not_after_itself}
use Rattle.h5_laws.specs.ChunkLadders.{rising_chunk_sides}
use Rattle.h5_laws.specs.KeyEdits.{IsPut}
use Rattle.h5_model.specs.Format.Superblock.{k_values}
use Rattle.h5_space.specs.Moves.{Moves}
use Rattle.h5_space.specs.Space.{Space}
use Rattle.h5_btree.specs.Insertion.{IsChildPut, IsEmptyTree}
use Rattle.h5_btree.specs.Keyed.{items_of_tree}
use Rattle.h5_btree.proofs.EmptyTrees.{empty_tree}
use Rattle.h5_btree.proofs.KeyedFills.{first_sorted}
use Rattle.h5_chunks.specs.Put.{HasChunkPut, IsBlockBeside}
use Rattle.h5_chunks.specs.Told.{chunk_blocks_told, chunks_told, listed_told}
use Rattle.h5_chunks.proofs.ChunkBlocks.{chunk_put, nodes_beside}
use Rattle.h5_chunks.proofs.ChunkFound.{stored_there}
use Rattle.h5_chunks.proofs.FullWays.{trees_apart}
use Rattle.h5_chunks.proofs.InsertedChunk.{IsChunkBefore}
use Rattle.h5_chunks.proofs.KeyedTold.{IsKeyedChunk, IsOrderedTree, chunk_numbers, chunk_of, items_told-kind, keyed_at, own_order, own_tree}
use Rattle.h5_chunks.proofs.SuperblockStays.{k_stays, kind_stays}
use Rattle.h5_chunks.proofs.ToldLaws.{entries_told}

no_entries : (es : List (List ℕ × ℕ)) → map (λ (e : List ℕ × ℕ). e.1) es ≡ [] → es ≡ []
no_entries [] none = refl
no_entries (e ∷ es) none = let long = ap (λ (ns : List ℕ). length ns) none in absurd (omega (arith, long))

-- ---- the first chunk

module _ (s : Space) (shape : Shape) (root chunk : ℕ) (beside : IsBlockBeside s shape root chunk)
    (none : (node_at s.bytes (shape_kind s.bytes shape) root).children ≡ []) (short : length s.bytes < 2 ^ 64) where
  abbrev kind : Kind
  kind = shape_kind s.bytes shape

  abbrev rank : ℕ
  rank = length shape.sizes

  abbrev owned : List ℕ
  owned = (beside.read.stored).owned

  abbrev list : List ℕ
  list = values (chunks_told s.bytes shape root)

  is_empty : ((beside.read.stored).level ≡ 0) × (owned ≡ root ∷ []) × (list ≡ [])
  is_empty = empty_tree s.bytes kind root (beside.read.stored).level owned list (stored_there s.bytes shape root beside.read) none

  -- the root is one without children
  pub still_empty : IsEmptyTree s (shape_kind s.bytes shape) root (beside.read.stored).owned
  still_empty = record {
    tree = subst (λ (l : ℕ). HasTree s.bytes kind root l owned []) is_empty.0
        (subst (HasTree s.bytes kind root (beside.read.stored).level owned) is_empty.2 (stored_there s.bytes shape root beside.read));
    apart = trees_apart s shape root beside.read (λ p. omega (arith, beside.apart p)) short;
    short = short;
  }

  module _ (some : 1 ≤ shape.bytes) (t : Space) (all : List ℕ) (put : IsChildPut s t (shape_kind s.bytes shape) root 0 (chunk ∷ []) (beside.read.stored).owned all)
      (low high : List ℕ) (keys : (node_at t.bytes (shape_kind s.bytes shape) root).keys ≡ low ∷ high ∷ [])
      (children : (node_at t.bytes (shape_kind s.bytes shape) root).children ≡ chunk ∷ []) (keyed : IsChunkKey shape.sizes shape.bytes low)
      (past : Before (offsets_in (length shape.sizes) low ++ 0 ∷ []) (all_offsets_in (length shape.sizes) high)) where
    abbrev x : List ℕ × ℕ
    x = (offsets_in rank low, chunk)

    own : all_offsets_in rank low ≡ offsets_in rank low ++ 0 ∷ []
    own = chunk_numbers shape.sizes shape.bytes low keyed

    sorted : IsOrderedTree kind t.bytes shape root 0 all (chunk ∷ []) put.tree × (items_of_tree (chunk_of rank) t.bytes kind keyed_at 0 root ≡ x ∷ [])
    sorted =
        let numbers = offsets_in rank low ++ 0 ∷ [] in
        first_sorted (rising_chunk_sides rank) (chunk_of rank) (IsKeyedChunk shape) x t.bytes kind root keyed_at low high chunk keys children keyed refl
        (subst (λ (ns : List ℕ). NotAfter ns numbers) (sym own) (not_after_itself numbers)) past
        (subst (λ (ns : List ℕ). NotAfter ns (all_offsets_in rank high)) (sym own) (before_le numbers (all_offsets_in rank high) past))

    k_t : k_values t.bytes ≡ k_values s.bytes
    k_t = k_stays s t (tree_blocks kind owned) (tree_blocks kind all) [] put.moves (nodes_beside s shape root chunk beside) beside.long

    kind_t : shape_kind t.bytes shape ≡ kind
    kind_t = kind_stays s t shape k_t

    pub first_tree : HasTree t.bytes (shape_kind t.bytes shape) root 0 all (chunk ∷ [])
    first_tree = own_tree kind t.bytes shape kind_t root 0 all (chunk ∷ []) put.tree sorted.0

    none_listed : listed_told s.bytes shape root ≡ []
    none_listed = sym (entries_told s.bytes shape root (chunks_told s.bytes shape root) (chunk_blocks_told s.bytes shape root) beside.read.stored)
        ∙ no_entries (entries (chunks_told s.bytes shape root)) is_empty.2

    more : IsPut IsChunkBefore x (listed_told s.bytes shape root) (listed_told t.bytes shape root)
    more = record {
      front = [];
      back = [];
      before = none_listed;
      after = sym (items_told-kind kind t.bytes shape kind_t root 0 all (chunk ∷ []) put.tree sorted.0) ∙ sorted.1;
      above = tt;
      below = tt;
    }

    laid : (p : ℕ) → cover p (chunk_blocks_told s.bytes shape root) ≡ cover p (tree_blocks kind owned ++ map (λ (at : ℕ). block at shape.bytes) [])
    laid p = ap (cover p) (beside.read.stored).laid ∙ ap (λ (ns : List ℕ). cover p (tree_blocks kind owned ++ map (λ (at : ℕ). block at shape.bytes) ns)) is_empty.2

    -- THE FIRST CHUNK is put in
    pub first_put : HasChunkPut s t shape root (offsets_in (length shape.sizes) low) chunk
    first_put = chunk_put s t shape root chunk beside some owned [] laid is_empty.2 0 all 0 k_t
        (subst (λ (k : Kind). Moves s t (tree_blocks kind owned) (tree_blocks k all)) (sym kind_t) put.moves) first_tree
        (own_order kind t.bytes shape kind_t root 0 all (chunk ∷ []) put.tree sorted.0) (offsets_in rank low) more
