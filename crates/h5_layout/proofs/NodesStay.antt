-- Chunks stay where the bytes of their tree's nodes do, and K, whatever is written into the chunks.
use Rattle.std.proofs.Common.{◌≡◌, ℕ, ◌≤◌, List, length, sym, subst}
use Rattle.std.specs.FinMap.{values}
use Rattle.h5_bytes.specs.Blocks.{Inside, Keeps}
use Rattle.h5_model.specs.Format.Chunks.{AreChunks, Chunks, HasChunks}
use Rattle.h5_model.specs.Format.Nodes.{chunk_kind, tree_blocks}
use Rattle.h5_model.specs.Format.Reached.{Shape, shape_kind}
use Rattle.h5_model.specs.Format.Superblock.{chunk_k, highest_k}
use Rattle.h5_model.proofs.Frames.{reading-same, tree-same}
use Rattle.h5_chunks.specs.Cursor.{IsCursor}
use Rattle.h5_chunks.specs.Read.{AreChunksRead}
use Rattle.h5_chunks.specs.Told.{chunk_blocks_told, chunks_told}
use Rattle.h5_chunks.specs.declared.cursor.ChunkCursor.{ChunkCursor}
use Rattle.h5_chunks.proofs.CursorLaws.{cursor_stays}
use Rattle.h5_chunks.proofs.ToldLaws.{blocks_are_told, chunks_are_told}

module _ (image new : List ℕ) (shape : Shape) (root : ℕ) (k : chunk_k new ≡ chunk_k image) (read : AreChunksRead image shape root) (long : length new ≡ length image)
    (kept : Keeps image new (tree_blocks (shape_kind image shape) read.stored.owned)) where
  -- the nodes are as they were
  still : HasChunks new (chunk_k new) shape.sizes shape.bytes root (chunks_told image shape root) (chunk_blocks_told image shape root)
  still =
      let has = read.stored in
      let kind = chunk_kind (chunk_k image) (length shape.sizes) in
      subst (λ n. HasChunks new n shape.sizes shape.bytes root (chunks_told image shape root) (chunk_blocks_told image shape root)) (sym k)
      (record {
        level = has.level;
        owned = has.owned;
        tree = tree-same image new kind has.owned kept root has.level (values (chunks_told image shape root)) has.tree;
        listed = subst (λ v. AreChunks v shape.sizes shape.bytes root has.level has.owned (chunks_told image shape root)) (sym (reading-same image new kind has.owned kept)) has.listed;
        laid = has.laid;
      })

  pub chunks_stay : chunks_told new shape root ≡ chunks_told image shape root
  chunks_stay = sym (chunks_are_told new shape root (chunks_told image shape root) (chunk_blocks_told image shape root) still)

  pub blocks_stay : chunk_blocks_told new shape root ≡ chunk_blocks_told image shape root
  blocks_stay = sym (blocks_are_told new shape root (chunks_told image shape root) (chunk_blocks_told image shape root) still)

  pub read_stays : AreChunksRead new shape root
  read_stays = record {
    k_some = subst (λ n. 1 ≤ n) (sym k) read.k_some;
    k_few = subst (λ n. n ≤ highest_k) (sym k) read.k_few;
    stored = subst (HasChunks new (chunk_k new) shape.sizes shape.bytes root (chunks_told new shape root)) (sym blocks_stay)
        (subst (λ (c : Chunks). HasChunks new (chunk_k new) shape.sizes shape.bytes root c (chunk_blocks_told image shape root)) (sym chunks_stay) still);
    inside = subst (Inside (length new)) (sym blocks_stay) (subst (λ (n : ℕ). Inside n (chunk_blocks_told image shape root)) (sym long) read.inside);
  }

  pub cursors_stay : (cursor : ChunkCursor) → IsCursor image shape root cursor → IsCursor new shape root cursor
  cursors_stay = cursor_stays image new shape root k read kept
