-- Whatever chunks stand in the tree at a root, in whatever blocks, are those that the image tells; and they stay where the blocks'
-- bytes do.
use Rattle.std.proofs.Common.{◌≡◌, ℕ, ◌≤◌, List, ◌++◌, length, map, sym, ap, ap₂, ◌∙◌, subst}
use Rattle.std.specs.Prelude.{T}
use Rattle.std.specs.Ordering.{nat_cmp}
use Rattle.std.specs.Cmp.Lexicographic.{slice_cmp}
use Rattle.std.specs.FinMap.{entries, entries-from_sorted, entries_sorted, is_sorted, same_entries_map, values}
use Rattle.h5_bytes.specs.Blocks.{Inside, Keeps, block}
use Rattle.h5_bytes.specs.declared.Block.{Block}
use Rattle.h5_model.specs.Format.Superblock.{chunk_k, highest_k}
use Rattle.h5_model.specs.Format.Nodes.{reading_of, tree_blocks}
use Rattle.h5_model.specs.Format.Chunks.{Chunks, HasChunks, chunks_at}
use Rattle.h5_model.specs.Format.Reached.{Shape, shape_kind}
use Rattle.h5_model.proofs.Frames.{chunks-same}
use Rattle.h5_btree.specs.Walk.Forms.{OfChunks}
use Rattle.h5_btree.specs.Walk.Trees.{IsTree}
use Rattle.h5_chunks.specs.Read.{AreChunksRead}
use Rattle.h5_chunks.specs.Told.{chunk_blocks_told, chunks_told, listed_told}
use Rattle.h5_chunks.proofs.OrderFaults.{listed_is}
use Rattle.h5_chunks.proofs.Readable.{stored_tree}
use Rattle.h5_chunks.proofs.Stored.{addresses_are, bottom_same, chunks_same, nodes_are}

module _ (image : List ℕ) (shape : Shape) (root : ℕ) (chunks : Chunks) (blocks : List Block) (has : HasChunks image (chunk_k image) shape.sizes shape.bytes root chunks blocks) where
  abbrev tree : IsTree image (OfChunks shape) root has.owned (values chunks)
  tree = stored_tree image shape root chunks blocks has

  abbrev IsSorted : List (List ℕ × ℕ) → Type 0
  IsSorted es = T (is_sorted (slice_cmp nat_cmp) es)

  pub entries_told : entries chunks ≡ listed_told image shape root
  entries_told =
      has.listed.listed
      ∙ ap (chunks_at (reading_of image (shape_kind image shape) has.owned) (length shape.sizes)) (bottom_same image shape root has.owned (values chunks) tree)
      ∙ chunks_same image shape root has.owned (values chunks) tree
      ∙ sym (listed_is image shape root has.owned (values chunks) tree)

  pub chunks_are_told : chunks ≡ chunks_told image shape root
  chunks_are_told =
      same_entries_map chunks (chunks_told image shape root)
      (entries_told ∙ sym (entries-from_sorted (slice_cmp nat_cmp) (listed_told image shape root) (subst IsSorted entries_told (entries_sorted chunks))))

  pub blocks_are_told : blocks ≡ chunk_blocks_told image shape root
  blocks_are_told =
      has.laid
      ∙ ap₂ (λ (ns xs : List ℕ). tree_blocks (shape_kind image shape) ns ++ map (λ (at : ℕ). block at shape.bytes) xs)
      (nodes_are image shape root has.owned (values chunks) tree) (addresses_are image shape root has.owned (values chunks) tree)

-- chunks stay where the bytes of their blocks stay, and K of their nodes
module _ (old new : List ℕ) (shape : Shape) (root : ℕ) (read : AreChunksRead old shape root) (k : chunk_k new ≡ chunk_k old)
    (kept : Keeps old new (chunk_blocks_told old shape root)) where
  stays : HasChunks new (chunk_k new) shape.sizes shape.bytes root (chunks_told old shape root) (chunk_blocks_told old shape root)
  stays = subst (λ n. HasChunks new n shape.sizes shape.bytes root (chunks_told old shape root) (chunk_blocks_told old shape root)) (sym k)
      (chunks-same old new (chunk_k old) shape.sizes shape.bytes root (chunks_told old shape root) (chunk_blocks_told old shape root) kept read.stored)

  pub chunks_told-same : chunks_told new shape root ≡ chunks_told old shape root
  chunks_told-same = sym (chunks_are_told new shape root (chunks_told old shape root) (chunk_blocks_told old shape root) stays)

  pub chunk_blocks_told-same : chunk_blocks_told new shape root ≡ chunk_blocks_told old shape root
  chunk_blocks_told-same = sym (blocks_are_told new shape root (chunks_told old shape root) (chunk_blocks_told old shape root) stays)

  pub chunks_read-same : Inside (length new) (chunk_blocks_told old shape root) → AreChunksRead new shape root
  chunks_read-same inside = record {
    k_some = subst (λ n. 1 ≤ n) (sym k) read.k_some;
    k_few = subst (λ n. n ≤ highest_k) (sym k) read.k_few;
    stored = subst (HasChunks new (chunk_k new) shape.sizes shape.bytes root (chunks_told new shape root)) (sym chunk_blocks_told-same)
        (subst (λ (c : Chunks). HasChunks new (chunk_k new) shape.sizes shape.bytes root c (chunk_blocks_told old shape root)) (sym chunks_told-same) stays);
    inside = subst (Inside (length new)) (sym chunk_blocks_told-same) inside;
  }
