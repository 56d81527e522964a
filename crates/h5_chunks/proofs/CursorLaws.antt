-- A cursor of a tree of chunks stays one where the bytes of the tree's nodes stay, and K.
use Rattle.std.proofs.Common.{◌≡◌, ℕ, List, [], ◌∷◌, length, Option, Some, None, sym, ap, ◌∙◌, subst}
use Rattle.std.specs.FinMap.{values}
use Rattle.std.specs.List.{Contains}
use Rattle.h5_bytes.specs.Blocks.{Keeps}
use Rattle.h5_model.specs.Format.Nodes.{HasTree, Kind, chunk_kind, node_at, reading_of, tree_blocks}
use Rattle.h5_model.specs.Format.Reached.{Shape, level_at, shape_kind}
use Rattle.h5_model.specs.Format.Rows.{Reading, row_below}
use Rattle.h5_model.specs.Format.Superblock.{chunk_k}
use Rattle.h5_model.proofs.Frames.{reading-same, tree-same}
use Rattle.h5_model.proofs.OneTree.{level_is, owned_is}
use Rattle.h5_model.proofs.RowLaws.{row_below-same}
use Rattle.h5_laws.proofs.Lists.{In}
use Rattle.h5_laws.proofs.Subtrees.{all_agree}
use Rattle.h5_btree.specs.declared.way.Step.{Step}
use Rattle.h5_chunks.specs.Cursor.{IsCursor}
use Rattle.h5_chunks.specs.Read.{AreChunksRead}
use Rattle.h5_chunks.specs.Told.{chunks_told}

abbrev bottom_row : List ℕ → Kind → ℕ → List ℕ
bottom_row image kind root = row_below (node_at image kind) (level_at image kind root) (root ∷ [])

-- the nodes of level 0, as the tree reads them and as they stand
bottom_read : (image : List ℕ) (kind : Kind) (root level : ℕ) (owned children : List ℕ) → HasTree image kind root level owned children
    → row_below (reading_of image kind owned) level (root ∷ []) ≡ bottom_row image kind root
bottom_read image kind root level owned children tree =
    let V : Reading = node_at image kind in
    let same = all_agree image kind root level owned children tree _ (λ x at. subst (In x) (sym (owned_is image kind root level owned children tree)) at) in
    row_below-same V (reading_of image kind owned) level (root ∷ []) same
    ∙ ap (λ (l : ℕ). row_below V l (root ∷ [])) (sym (level_is image kind root level owned children tree))

module _ (old new : List ℕ) (shape : Shape) (root : ℕ) (k : chunk_k new ≡ chunk_k old) (read : AreChunksRead old shape root) where
  -- where the bytes of the tree's nodes stay, whatever is written into its chunks
  module _ (kept : Keeps old new (tree_blocks (shape_kind old shape) (read.stored).owned)) where
    bottom_stays : bottom_row new (shape_kind new shape) root ≡ bottom_row old (shape_kind old shape) root
    bottom_stays =
        let kind : Kind = shape_kind old shape in
        let level : ℕ = (read.stored).level in
        let owned : List ℕ = (read.stored).owned in
        let children : List ℕ = values (chunks_told old shape root) in
        let there : HasTree old kind root level owned children = (read.stored).tree in
        let here : HasTree new kind root level owned children = tree-same old new kind owned kept root level children there in
        ap (λ n. bottom_row new (chunk_kind n (length shape.sizes)) root) k ∙ sym (bottom_read new kind root level owned children here)
        ∙ ap (λ (V : Reading). row_below V level (root ∷ [])) (reading-same old new kind owned kept)
        ∙ bottom_read old kind root level owned children there

    pub cursor_stays : (cursor : Option Step) → IsCursor old shape root cursor → IsCursor new shape root cursor
    cursor_stays None is = tt
    cursor_stays (Some step) is = subst (λ (row : List ℕ). Contains row step.node) (sym bottom_stays) is
