-- The blocks of a tree of chunks into which a chunk has come: they are apart, and the chunks that are told stand in them.
use Rattle.std.proofs.Common.{◌≡◌, ℕ, ◌+◌, ◌≤◌, List, [], ◌∷◌, ◌++◌, length, map, take, drop, sym, ap, ◌∙◌, subst, arith}
use Rattle.std.proofs.lemmas.List.{map-append, take-append-drop}
use Rattle.std.specs.FinMap.{values}
use Rattle.std.specs.List.{insert}
use Rattle.h5_bytes.specs.Blocks.{Inside, Keeps, block, cover, holds}
use Rattle.h5_bytes.specs.declared.Block.{Block}
use Rattle.h5_bytes.proofs.BlockLaws.{all_append, all_right, cover-append}
use Rattle.h5_model.specs.Format.Nodes.{HasTree, Kind, node_block, tree_blocks}
use Rattle.h5_model.specs.Format.Reached.{Shape, shape_kind}
use Rattle.h5_model.specs.Format.Superblock.{k_values}
use Rattle.h5_model.proofs.KLaws.{same_chunk, same_length}
use Rattle.h5_laws.specs.KeyEdits.{IsPut}
use Rattle.h5_space.specs.Moves.{Moves}
use Rattle.h5_space.specs.Space.{Space}
use Rattle.h5_space.specs.Whole.{IsApart}
use Rattle.h5_space.proofs.MovesLaws.{moves_apart, moves_beside, moves_kept, moves_same}
use Rattle.h5_btree.specs.Walk.Forms.{OfChunks}
use Rattle.h5_btree.specs.Walk.Trees.{nodes_blocks}
use Rattle.h5_btree.proofs.BlocksInside.{inside_held, made_long}
use Rattle.h5_chunks.specs.Put.{HasChunkPut, IsBlockBeside}
use Rattle.h5_chunks.specs.Told.{chunk_blocks_told, chunks_told, listed_told}
use Rattle.h5_chunks.proofs.InsertedChunk.{IsChunkBefore, read_with, told_with}
use Rattle.h5_chunks.proofs.KeyedTold.{IsOrderedTree, ordered_tree}
use Rattle.h5_chunks.proofs.Stored.{blocks_are}
use Rattle.h5_chunks.proofs.SuperblockStays.{superblock_of}

-- the blocks of chunks with one more
cover-insert : (p bytes : ℕ) (list : List ℕ) (j chunk : ℕ) → cover p (map (λ (at : ℕ). block at bytes) (insert list j chunk)) ≡ holds p chunk bytes + cover p (map (λ (at : ℕ). block at bytes) list)
cover-insert p bytes list j chunk =
    let f = λ (at : ℕ). block at bytes in
    let front = map f (take j list) in
    let back = map f (drop j list) in
    let new : cover p (map f (insert list j chunk)) ≡ cover p (front ++ f chunk ∷ back) = ap (cover p) (map-append f (take j list) (chunk ∷ drop j list)) in
    let old : cover p (map f list) ≡ cover p (front ++ back)
    = ap (λ (xs : List ℕ). cover p (map f xs)) (sym (take-append-drop j list)) ∙ ap (cover p) (map-append f (take j list) (drop j list)) in
    omega (arith, new, old, cover-append p front (f chunk ∷ back), cover-append p front back)

-- the nodes of the tree are apart from the superblock
pub nodes_beside : (s : Space) (shape : Shape) (root chunk : ℕ) (beside : IsBlockBeside s shape root chunk)
    → IsApart (tree_blocks (shape_kind s.bytes shape) (beside.read.stored).owned ++ (superblock_of s ∷ [])) s.free (length s.bytes)
nodes_beside s shape root chunk beside p =
    let owned = tree_blocks (shape_kind s.bytes shape) (beside.read.stored).owned in
    let chunks = map (λ (at : ℕ). block at shape.bytes) (values (chunks_told s.bytes shape root)) in
    let laid = ap (cover p) (beside.read.stored).laid in
    omega (arith, beside.apart p, laid, cover-append p owned chunks, cover-append p owned (superblock_of s ∷ []))

-- ---- a chunk has come in

module _ (s t : Space) (shape : Shape) (root chunk : ℕ) (beside : IsBlockBeside s shape root chunk) (some : 1 ≤ shape.bytes) (owned list : List ℕ)
    (laid : (p : ℕ) → cover p (chunk_blocks_told s.bytes shape root)
    ≡ cover p (tree_blocks (shape_kind s.bytes shape) owned ++ map (λ (at : ℕ). block at shape.bytes) list))
    (same : values (chunks_told s.bytes shape root) ≡ list)
    (height : ℕ) (all : List ℕ) (j : ℕ) (k : k_values t.bytes ≡ k_values s.bytes)
    (moved : Moves s t (tree_blocks (shape_kind s.bytes shape) owned) (tree_blocks (shape_kind t.bytes shape) all))
    (has : HasTree t.bytes (shape_kind t.bytes shape) root height all (insert list j chunk))
    (ordered : IsOrderedTree (shape_kind t.bytes shape) t.bytes shape root height all (insert list j chunk) has)
    (offsets : List ℕ) (more : IsPut IsChunkBefore (offsets, chunk) (listed_told s.bytes shape root) (listed_told t.bytes shape root)) where
  abbrev kind : Kind
  kind = shape_kind s.bytes shape

  abbrev kind' : Kind
  kind' = shape_kind t.bytes shape

  abbrev list' : List ℕ
  list' = insert list j chunk

  abbrev T : List Block
  T = tree_blocks kind owned

  abbrev T' : List Block
  T' = tree_blocks kind' all

  abbrev chunks : List Block
  chunks = map (λ (at : ℕ). block at shape.bytes) list

  abbrev new : Block
  new = block chunk shape.bytes

  abbrev superblock : Block
  superblock = superblock_of s

  abbrev now : List Block
  now = nodes_blocks t.bytes (OfChunks shape) all list'

  now_is : (p : ℕ) → cover p now ≡ cover p (T' ++ new ∷ chunks)
  now_is p =
      omega (arith, cover-append p T' (map (λ (at : ℕ). block at shape.bytes) list'), cover-append p T' (new ∷ chunks), cover-insert p shape.bytes list j chunk)

  apart_before : IsApart (T ++ superblock ∷ new ∷ chunks) s.free (length s.bytes)
  apart_before p = omega (arith, beside.apart p, laid p, cover-append p T chunks, cover-append p T (superblock ∷ new ∷ chunks))

  apart_now : (p : ℕ) → cover p (superblock ∷ now) + cover p t.free ≤ holds p 0 (length t.bytes)
  apart_now p =
      let is = moves_apart s t T T' (superblock ∷ new ∷ chunks) moved apart_before p in
      omega (arith, is, now_is p, cover-append p T' (superblock ∷ new ∷ chunks), cover-append p T' (new ∷ chunks))

  inside_now : Inside (length t.bytes) now
  inside_now = inside_held (length t.bytes) now (λ p. omega (arith, apart_now p))
      (all_append (λ (b : Block). 1 ≤ b.len) T' (map (λ (at : ℕ). block at shape.bytes) list')
      (made_long (node_block kind') all (λ n. omega arith)) (made_long (λ (at : ℕ). block at shape.bytes) list' (λ n. some)))

  now_told : now ≡ chunk_blocks_told t.bytes shape root
  now_told = blocks_are t.bytes shape root all list' (ordered_tree t.bytes shape root height all list' has ordered)

  -- its bytes stay, and those of the others
  inside_new : Inside (length s.bytes) (new ∷ [])
  inside_new = inside_held (length s.bytes) (new ∷ []) (λ p. omega (arith, beside.apart p)) (some, tt)

  inside_before : Inside (length s.bytes) chunks
  inside_before = all_right (λ (b : Block). b.at + b.len ≤ length s.bytes) (tree_blocks kind (beside.read.stored).owned) chunks
      (subst (λ (ns : List ℕ). Inside (length s.bytes) (tree_blocks kind (beside.read.stored).owned ++ map (λ (at : ℕ). block at shape.bytes) ns)) same
      (subst (Inside (length s.bytes)) (beside.read.stored).laid (beside.read).inside))

  all_kept : Keeps s.bytes t.bytes (block chunk shape.bytes ∷ map (λ (at : ℕ). block at shape.bytes) (values (chunks_told s.bytes shape root)))
  all_kept = subst (λ (ns : List ℕ). Keeps s.bytes t.bytes (new ∷ map (λ (at : ℕ). block at shape.bytes) ns)) (sym same)
      (moves_kept s t T T' (new ∷ chunks) moved (λ p. omega (arith, apart_before p, cover-append p T (superblock ∷ new ∷ chunks), cover-append p T (new ∷ chunks)))
      (inside_new.0, inside_before))

  -- THE CHUNK IS PUT IN
  pub chunk_put : HasChunkPut s t shape root offsets chunk
  chunk_put = record {
    told = told_with s.bytes t.bytes shape root (same_chunk t.bytes s.bytes k) beside.read height all list' has ordered offsets chunk more;
    stand = record {
      read = read_with s.bytes t.bytes shape root (same_chunk t.bytes s.bytes k) beside.read height all list' has ordered offsets chunk more inside_now;
      apart = subst (λ n. IsApart (block 0 n ∷ chunk_blocks_told t.bytes shape root) t.free (length t.bytes)) (sym (same_length t.bytes s.bytes k))
          (subst (λ (bs : List Block). IsApart (superblock ∷ bs) t.free (length t.bytes)) now_told apart_now);
      long = let grown = moved.grown in let old = beside.long in let same = same_length t.bytes s.bytes k in omega (arith, grown, old, same);
    };
    moves = subst (λ (bs : List Block). Moves s t (new ∷ chunk_blocks_told s.bytes shape root) bs) now_told
        (moves_same s t (T ++ new ∷ chunks) (T' ++ new ∷ chunks) (new ∷ chunk_blocks_told s.bytes shape root) now
        (λ p. omega (arith, laid p, cover-append p T chunks, cover-append p T (new ∷ chunks))) now_is (moves_beside s t T T' (new ∷ chunks) moved));
    k = k;
    kept = all_kept;
  }
