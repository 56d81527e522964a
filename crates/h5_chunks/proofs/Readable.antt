-- Chunks that stand there, in blocks that can all be claimed, are refused for want of memory alone.
use Rattle.std.proofs.Common.{◌≡◌, ℕ, zero, suc, ◌+◌, ◌<◌, ◌≤◌, List, [], ◌∷◌, length, take, inl, inr, refl, sym, ◌∙◌, subst, arith}
use Rattle.std.specs.Prelude.{slice_index_or}
use Rattle.std.specs.List.{AllByRecursion}
use Rattle.std.specs.FinMap.{values}
use Rattle.h5_bytes.specs.Blocks.{Inside, cover}
use Rattle.h5_bytes.specs.declared.Block.{Block}
use Rattle.h5_model.specs.Format.Rows.{Reading, row_below}
use Rattle.h5_model.specs.Format.Nodes.{node_at, reading_of}
use Rattle.h5_model.specs.Format.Chunks.{Chunks, HasChunkKeys, HasChunks, IsChunkKey}
use Rattle.h5_model.specs.Format.Superblock.{chunk_k}
use Rattle.h5_model.specs.Format.Reached.{Shape, shape_kind}
use Rattle.h5_model.specs.declared.open_fault.Cause.{Cause}
use Rattle.h5_model.specs.declared.open_fault.Cause.TheVariants.{KeyOrder, NoMemory}
use Rattle.h5_model.proofs.OneTree.{level_is, one_owned, owned_is}
use Rattle.h5_model.proofs.RowLaws.{row_below-same}
use Rattle.h5_laws.proofs.ChunkExcluded.{chunk_order_excluded}
use Rattle.h5_laws.proofs.Lists.{In, all_in, in_all, in_contains}
use Rattle.h5_laws.proofs.Rows.{row_of}
use Rattle.h5_laws.proofs.Subtrees.{all_agree, read_same}
use Rattle.h5_laws.proofs.Trees.{row_owned}
use Rattle.h5_btree.specs.Walk.Forms.{IsFormed, IsKeyed, OfChunks}
use Rattle.h5_btree.specs.Walk.Readable.{IsTreeReadable}
use Rattle.h5_btree.specs.Walk.Trees.{IsTree}
use Rattle.h5_chunks.specs.Order.{IsChunkOrderRefused}
use Rattle.h5_chunks.specs.Read.{AreChunksReadable}
use Rattle.h5_chunks.proofs.NodeKeys.{one_more_key}
use Rattle.h5_chunks.proofs.OrderFaults.{descend_bottom}

pub each_formed : (image : List ℕ) (shape : Shape) (addresses : List ℕ) → AllByRecursion (IsFormed image (OfChunks shape)) addresses
each_formed image shape [] = tt
each_formed image shape (at ∷ rest) = (tt, each_formed image shape rest)

taken_each : (P : List ℕ → Type 0) (keys : List (List ℕ)) (n i : ℕ) → n ≤ length keys → AllByRecursion P (take n keys) → i < n → P (slice_index_or keys i [])
taken_each P keys zero i few all low = absurd (omega (arith, low))
taken_each P [] (suc n) i few all low = absurd (omega (arith, few))
taken_each P (key ∷ keys) (suc n) zero few all low = all.0
taken_each P (key ∷ keys) (suc n) (suc i) few all low = taken_each P keys n i (omega (arith, few)) all.1 (omega (arith, low))

module _ (image : List ℕ) (shape : Shape) (root : ℕ) (chunks : Chunks) (blocks : List Block) (has : HasChunks image (chunk_k image) shape.sizes shape.bytes root chunks blocks) where
  abbrev V : Reading
  V = node_at image (shape_kind image shape)

  abbrev W : Reading
  W = reading_of image (shape_kind image shape) has.owned

  own_bottom : row_below W has.level (root ∷ []) ≡ row_below V has.level (root ∷ [])
  own_bottom = row_below-same V W has.level (root ∷ [])
      (all_agree image (shape_kind image shape) root has.level has.owned (values chunks) has.tree _
      (λ x at. subst (In x) (sym (owned_is image (shape_kind image shape) root has.level has.owned (values chunks) has.tree)) at))

  node_keyed : (at : ℕ) → HasChunkKeys shape.sizes shape.bytes (V at) → IsKeyed (OfChunks shape) (V at)
  node_keyed at keys i low =
      taken_each (IsChunkKey shape.sizes shape.bytes) (V at).keys (length (V at).children) i
      (omega (arith, one_more_key image shape at (V at) refl)) keys low

  pub keyed_there : (at : ℕ) → In at (row_below V has.level (root ∷ [])) → IsKeyed (OfChunks shape) (V at)
  keyed_there at there =
      let same = read_same image (shape_kind image shape) root has.level has.owned (values chunks) has.tree at
      (row_owned image (shape_kind image shape) root has.level has.owned (values chunks) has.tree has.level 0 at (omega arith) there) in
      let keys = in_all (λ n. HasChunkKeys shape.sizes shape.bytes (W n)) at (row_below W has.level (root ∷ [])) has.listed.keyed
      (subst (In at) (sym own_bottom) there) in
      node_keyed at (subst (HasChunkKeys shape.sizes shape.bytes) same keys)

  -- chunks of the definition stand in a tree of that form
  abbrev pub stored_tree : IsTree image (OfChunks shape) root has.owned (values chunks)
  stored_tree = record {
    level = has.level;
    tree = has.tree;
    formed = each_formed image shape (values chunks);
    keyed = all_in (λ at. IsKeyed (OfChunks shape) (V at)) (row_below V has.level (root ∷ [])) keyed_there;
  }

module _ (image : List ℕ) (shape : Shape) (root : ℕ) (held : List Block) (readable : AreChunksReadable image shape root held) where
  abbrev R : Reading
  R = node_at image (shape_kind image shape)

  abbrev owned : List ℕ
  owned = (readable.has).owned

  abbrev level : ℕ
  level = (readable.has).level

  abbrev addresses : List ℕ
  addresses = values readable.chunks

  pub tree_readable : IsTreeReadable image (OfChunks shape) root held
  tree_readable = record {
    nodes = owned;
    leaves = addresses;
    has = stored_tree image shape root readable.chunks readable.blocks readable.has;
    inside = subst (Inside (length image)) (readable.has).laid readable.inside;
    separate = λ p. subst (λ (bs : List Block). cover p held + cover p bs ≤ 1) (readable.has).laid (readable.separate p);
  }

  module _ (nodes leaves : List ℕ) (t : IsTree image (OfChunks shape) root nodes leaves) where
    own_row : (at : ℕ) → In at nodes → (d : ℕ) × (l : ℕ) × (d + l ≡ level) × In at (row_below R d (root ∷ []))
    own_row at there =
        let same = one_owned image (shape_kind image shape) root t.level level nodes owned leaves addresses t.tree (readable.has).tree in
        let are = owned_is image (shape_kind image shape) root level owned addresses (readable.has).tree in
        row_of R level at (root ∷ []) (subst (In at) (same ∙ are) there)

    pub order_memory : (cause : Cause) (address : ℕ) → IsChunkOrderRefused image shape root nodes cause address → cause ≡ NoMemory
    order_memory KeyOrder address (inl (there, breaks)) =
        let row = own_row address (in_contains address nodes there) in
        absurd (chunk_order_excluded image shape root readable.chunks readable.blocks readable.has row.0 row.1 address row.2 row.3 (inl breaks))
    order_memory KeyOrder address (inr descend) =
        let one : t.level ≡ level
        = sym (level_is image (shape_kind image shape) root t.level nodes leaves t.tree) ∙ level_is image (shape_kind image shape) root level owned addresses (readable.has).tree in
        let there : In address (row_below R level (root ∷ []))
        = subst (λ (l : ℕ). In address (row_below R l (root ∷ []))) one (descend_bottom image shape root nodes leaves t address descend) in
        absurd (chunk_order_excluded image shape root readable.chunks readable.blocks readable.has level 0 address (omega arith) there (inr (refl, descend)))
    order_memory _ address refused = absurd refused
