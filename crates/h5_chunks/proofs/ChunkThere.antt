-- A chunk at a child of a node of level 0 is one of the tree's, and stands there, if it stands at all, where the way to it ends.
use Rattle.std.proofs.Common.{◌≡◌, ℕ, ◌+◌, ◌*◌, ◌<◌, List, [], ◌∷◌, ◌++◌, length, slice_get, Option, Some, None, refl, sym, ap, ◌∙◌, subst, arith}
use Rattle.std.specs.Prelude.{IfNone, IfSome, slice_index_or}
use Rattle.std.specs.Cmp.Lexicographic.{nat_list_cmp_total}
use Rattle.std.specs.FinMap.{get, nat_cmp-IsAntisymmetric, slice_cmp-IsAntisymmetric, values}
use Rattle.std.specs.List.{AllByRecursion, Contains}
use Rattle.std.proofs.lemmas.Cmp.{tied_itself}
use Rattle.std.proofs.lemmas.Option.{slice_get-get_or}
use Rattle.h5_bytes.specs.Blocks.{Inside}
use Rattle.h5_model.specs.Format.Chunks.{all_offsets_in}
use Rattle.h5_model.specs.Format.Nodes.{node_at}
use Rattle.h5_model.specs.Format.Reached.{Shape, shape_kind}
use Rattle.h5_model.specs.Format.Rows.{Node, Reading, row_below}
use Rattle.h5_laws.proofs.Lists.{In, in_all, in_contains}
use Rattle.h5_btree.specs.Walk.Forms.{OfChunks}
use Rattle.h5_btree.specs.Walk.Stands.{IsNodeAt, bottom_at}
use Rattle.h5_chunks.specs.Read.{AreChunksRead}
use Rattle.h5_chunks.specs.Told.{chunks_told}
use Rattle.h5_chunks.specs.Way.{EndsForChunk, IsChunkThere}
use Rattle.h5_chunks.proofs.ChunkFound.{at_bottom, chunk_absent, found_in_row, key_is_chunk, key_low, place_low, top}
use Rattle.h5_chunks.proofs.NodeKeys.{keys_are_long, one_more_key}
use Rattle.h5_chunks.proofs.OrderFaults.{bottom_stands}
use Rattle.h5_chunks.proofs.Readable.{stored_tree}

module _ (image : List ℕ) (shape : Shape) (root : ℕ) (read : AreChunksRead image shape root) where
  abbrev V : Reading
  V = node_at image (shape_kind image shape)

  abbrev rank : ℕ
  rank = length shape.sizes

  abbrev bottom : List ℕ
  bottom = row_below V (read.stored).level (root ∷ [])

  rows_are : bottom_at image (OfChunks shape) root ≡ bottom
  rows_are = ap (λ (l : ℕ). row_below V l (root ∷ [])) (top image shape root read)

  module _ (offsets : List ℕ) (same : length offsets ≡ rank) where
    -- the numbers of a key, by the rank of the chunks
    tied : (key : List ℕ) → all_offsets_in (length offsets) key ≡ offsets ++ 0 ∷ [] → key_is_chunk rank key offsets same
    tied key is = rw (sym (ap (λ (n : ℕ). all_offsets_in n key) same) ∙ is) (tied_itself nat_list_cmp_total (offsets ++ 0 ∷ []))

    untied : (key : List ℕ) → key_is_chunk rank key offsets same → all_offsets_in (length offsets) key ≡ offsets ++ 0 ∷ []
    untied key is =
        ap (λ (n : ℕ). all_offsets_in n key) same
        ∙ slice_cmp-IsAntisymmetric nat_cmp-IsAntisymmetric (all_offsets_in rank key) (offsets ++ 0 ∷ []) is

    in_found : (a : ℕ) → In a bottom → (node : Node) → node ≡ V a → (i at : ℕ) → IsChunkThere offsets node i at → get (chunks_told image shape root) offsets ≡ Some at
    in_found a in_row node is i at there =
        let key : List ℕ = slice_index_or node.keys i [] in
        let long = one_more_key image shape a node is in
        found_in_row image shape root read a in_row node is offsets same i there.low key (slice_get-get_or node.keys i [] (omega (arith, there.low, long))) at there.child
        (tied key there.key)

    -- whichever node of level 0 that is
    pub there_found : (a : ℕ) → Contains (bottom_at image (OfChunks shape) root) a → (i at : ℕ) → IsChunkThere offsets (V a) i at
        → get (chunks_told image shape root) offsets ≡ Some at
    there_found a in_row = in_found a (subst (In a) rows_are (in_contains a (bottom_at image (OfChunks shape) root) in_row)) (V a) refl

    module _ (node : Node) (i : ℕ) (ends : EndsForChunk image shape root offsets node i) where
      abbrev key : List ℕ
      key = slice_index_or node.keys i []

      got : slice_get node.keys i ≡ Some key
      got = slice_get-get_or node.keys i [] (key_low image shape root read offsets same node i ends)

      low : i < length node.children
      low = place_low image shape root read offsets same node i ends

      -- what is known of the child where the way ends is known of the chunk
      pub end_told : (found : Option ℕ) → IfSome found (IsChunkThere offsets node i) → IfNone found ((at : ℕ) → IsChunkThere offsets node i at → ⊥)
          → found ≡ get (chunks_told image shape root) offsets
      end_told None some none =
          sym (chunk_absent image shape root read offsets same node i ends key got (λ is.
          none (slice_index_or node.children i 0) (record { low = low; key = untied key is; child = slice_get-get_or node.children i 0 low })))
      end_told (Some at) there none =
          let row = at_bottom image shape root read offsets same node i ends in
          sym (in_found row.0 row.1 node row.2 i at there)

  -- ---- a node of level 0, where it stands

  module _ (a : ℕ) (in_row : Contains (bottom_at image (OfChunks shape) root) a) where
    pub row_stands : IsNodeAt image (OfChunks shape) a
    row_stands =
        let tree = stored_tree image shape root (chunks_told image shape root) _ read.stored in
        let stand = bottom_stands image shape root (read.stored).owned (values (chunks_told image shape root)) tree (subst (Inside (length image)) (read.stored).laid read.inside) in
        in_all (IsNodeAt image (OfChunks shape)) a bottom stand (subst (In a) rows_are (in_contains a (bottom_at image (OfChunks shape) root) in_row))

    pub row_keys : (n : ℕ) → n ≡ rank → (node : Node) → node ≡ V a → AllByRecursion (λ (key : List ℕ). length key ≡ 8 + 8 * (n + 1)) node.keys
    row_keys n same node is = rw same (keys_are_long image shape a node is row_stands)
