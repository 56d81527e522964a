-- A tree of chunks in order has the chunks that are told, in the blocks that are told.
use Rattle.std.proofs.Common.{◌≡◌, ℕ, zero, suc, ◌<◌, ◌≤◌, List, [], ◌∷◌, ◌++◌, length, map, take, refl, sym, ap, ap₂, ◌∙◌, subst, arith}
use Rattle.std.specs.Prelude.{slice_index_or}
use Rattle.std.specs.Ordering.{nat_cmp}
use Rattle.std.specs.Cmp.Lexicographic.{slice_cmp}
use Rattle.std.specs.FinMap.{entries, values, entries-from_sorted}
use Rattle.std.specs.List.{AllByRecursion}
use Rattle.h5_bytes.specs.Blocks.{Inside, block}
use Rattle.h5_model.specs.Format.Rows.{Reading, leaves, nodes, row_below}
use Rattle.h5_model.specs.Format.Nodes.{HasTree, node_at, reading_of, tree_blocks}
use Rattle.h5_model.specs.Format.Chunks.{AreChunks, HasChunkKeys, IsChunkKey, IsChunkOrdered, chunks_at, chunks_in}
use Rattle.h5_model.specs.Format.Reached.{Shape, level_at, shape_kind}
use Rattle.h5_model.specs.Format.Superblock.{chunk_k, highest_k}
use Rattle.h5_model.proofs.OneTree.{children_are, level_is, owned_is}
use Rattle.h5_model.proofs.RowLaws.{row_below-same}
use Rattle.h5_laws.specs.ChunkLadders.{chunk_lists, chunk_sides}
use Rattle.h5_laws.proofs.ChunkLadders.{by_chunks, chunks_by}
use Rattle.h5_laws.proofs.Entries.{flat-same}
use Rattle.h5_laws.proofs.LadderTrees.{own_ordered}
use Rattle.h5_laws.proofs.Lists.{In, all_in, in_all}
use Rattle.h5_laws.proofs.Subtrees.{all_agree, read_same}
use Rattle.h5_laws.proofs.Trees.{row_owned}
use Rattle.h5_btree.specs.Walk.Forms.{IsKeyed, OfChunks}
use Rattle.h5_btree.specs.Walk.Trees.{IsTree, nodes_blocks}
use Rattle.h5_chunks.specs.Order.{AreChunksOrdered}
use Rattle.h5_chunks.specs.Read.{AreChunksRead}
use Rattle.h5_chunks.specs.Told.{addresses_told, chunk_blocks_told, chunk_nodes_told, chunks_told, listed_told}
use Rattle.h5_chunks.proofs.ChunkRows.{row_addresses}
use Rattle.h5_chunks.proofs.NodeKeys.{one_more_key}

all_taken : (P : List ℕ → Type 0) (keys : List (List ℕ)) (n : ℕ) → n ≤ length keys → ((i : ℕ) → i < n → P (slice_index_or keys i [])) → AllByRecursion P (take n keys)
all_taken P keys zero low each = tt
all_taken P [] (suc n) low each = absurd (omega (arith, low))
all_taken P (key ∷ keys) (suc n) low each = (each 0 (omega arith), all_taken P keys n (omega (arith, low)) (λ i few. each (suc i) (omega (arith, few))))

module _ (image : List ℕ) (shape : Shape) (root : ℕ) (owned addresses : List ℕ) (t : IsTree image (OfChunks shape) root owned addresses) where
  abbrev V : Reading
  V = node_at image (shape_kind image shape)

  abbrev W : Reading
  W = reading_of image (shape_kind image shape) owned

  abbrev rank : ℕ
  rank = length shape.sizes

  top : level_at image (shape_kind image shape) root ≡ t.level
  top = level_is image (shape_kind image shape) root t.level owned addresses t.tree

  pub nodes_are : owned ≡ chunk_nodes_told image shape root
  nodes_are = owned_is image (shape_kind image shape) root t.level owned addresses t.tree ∙ ap (λ (l : ℕ). nodes V l (root ∷ [])) (sym top)

  pub addresses_are : addresses ≡ addresses_told image shape root
  addresses_are = children_are image (shape_kind image shape) root t.level owned addresses t.tree ∙ ap (λ (l : ℕ). leaves V l (root ∷ [])) (sym top)

  pub blocks_are : nodes_blocks image (OfChunks shape) owned addresses ≡ chunk_blocks_told image shape root
  blocks_are = ap₂ (λ (ns xs : List ℕ). tree_blocks (shape_kind image shape) ns ++ map (λ (at : ℕ). block at shape.bytes) xs) nodes_are addresses_are

  -- ---- the nodes of level 0, as they stand and as the tree reads them

  abbrev bottom : List ℕ
  bottom = row_below V t.level (root ∷ [])

  pub bottom_same : row_below W t.level (root ∷ []) ≡ bottom
  bottom_same = row_below-same V W t.level (root ∷ [])
      (all_agree image (shape_kind image shape) root t.level owned addresses t.tree _
      (λ x at. subst (In x) (sym (owned_is image (shape_kind image shape) root t.level owned addresses t.tree)) at))

  same_there : (at : ℕ) → In at bottom → W at ≡ V at
  same_there at there =
      read_same image (shape_kind image shape) root t.level owned addresses t.tree at
      (row_owned image (shape_kind image shape) root t.level owned addresses t.tree t.level 0 at (omega arith) there)

  pub chunks_same : chunks_at W rank bottom ≡ chunks_at V rank bottom
  chunks_same = flat-same (λ at. chunks_in rank (W at)) (λ at. chunks_in rank (V at)) bottom
      (all_in (λ at. chunks_in rank (W at) ≡ chunks_in rank (V at)) bottom (λ at there. ap (chunks_in rank) (same_there at there)))

  keyed_node : (at : ℕ) → IsKeyed (OfChunks shape) (V at) → HasChunkKeys shape.sizes shape.bytes (V at)
  keyed_node at keyed =
      all_taken (IsChunkKey shape.sizes shape.bytes) (V at).keys (length (V at).children) (omega (arith, one_more_key image shape at (V at) refl)) keyed

  own_keyed : AllByRecursion (λ at. HasChunkKeys shape.sizes shape.bytes (W at)) bottom
  own_keyed = all_in (λ at. HasChunkKeys shape.sizes shape.bytes (W at)) bottom (λ at there.
      subst (HasChunkKeys shape.sizes shape.bytes) (sym (same_there at there))
      (keyed_node at (in_all (λ n. IsKeyed (OfChunks shape) (V n)) at bottom t.keyed there)))

  -- ---- in order

  module _ (order : AreChunksOrdered image shape root owned) where
    entries_are : entries (chunks_told image shape root) ≡ chunks_at V rank bottom
    entries_are = entries-from_sorted (slice_cmp nat_cmp) (listed_told image shape root) order.ascending
        ∙ ap (λ (l : ℕ). chunks_at V rank (row_below V l (root ∷ []))) top

    values_are : values (chunks_told image shape root) ≡ addresses
    values_are = ap (map (λ (c : List ℕ × ℕ). c.1)) entries_are ∙ row_addresses image shape bottom
        ∙ sym (children_are image (shape_kind image shape) root t.level owned addresses t.tree)

    own_ordered_nodes : AllByRecursion (λ at. IsChunkOrdered W rank (W at)) owned
    own_ordered_nodes = all_in (λ at. IsChunkOrdered W rank (W at)) owned (λ at there.
        chunks_by W rank (W at)
        (own_ordered image (shape_kind image shape) root t.level owned addresses t.tree (chunk_lists rank) (chunk_lists rank) (λ n row. refl) at there (chunk_sides rank)
        (by_chunks V rank (V at) (in_all (λ n. IsChunkOrdered V rank (V n)) at owned order.ordered there))))

    listed : AreChunks W shape.sizes shape.bytes root t.level owned (chunks_told image shape root)
    listed = record {
      listed = entries_are ∙ sym chunks_same ∙ ap (chunks_at W rank) (sym bottom_same);
      keyed = subst (AllByRecursion (λ at. HasChunkKeys shape.sizes shape.bytes (W at))) (sym bottom_same) own_keyed;
      ordered = own_ordered_nodes;
    }

    pub chunks_read : 1 ≤ chunk_k image → chunk_k image ≤ highest_k → Inside (length image) (nodes_blocks image (OfChunks shape) owned addresses) → AreChunksRead image shape root
    chunks_read some few inside = record {
      k_some = some;
      k_few = few;
      stored = record {
        level = t.level;
        owned = owned;
        tree = subst (HasTree image (shape_kind image shape) root t.level owned) (sym values_are) t.tree;
        listed = listed;
        laid = ap₂ (λ (ns xs : List ℕ). tree_blocks (shape_kind image shape) ns ++ map (λ (at : ℕ). block at shape.bytes) xs)
            (sym nodes_are) (sym addresses_are ∙ sym values_are);
      };
      inside = subst (Inside (length image)) blocks_are inside;
    }
