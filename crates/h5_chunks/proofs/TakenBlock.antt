-- A block that was taken beside a tree of chunks that was read: the tree stands as it did, and has room where it had.
use Rattle.std.proofs.Common.{◌≡◌, ℕ, ◌+◌, ◌*◌, ◌^◌, ◌<◌, ◌≤◌, List, [], ◌∷◌, ◌++◌, length, length-append, map, replicate, sym, ap, ◌∙◌, subst, arith}
use Rattle.std.specs.FinMap.{values}
use Rattle.std.specs.List.{AllByRecursion}
use Rattle.std.proofs.lemmas.List.{length-replicate, places, same_lists}
use Rattle.h5_bytes.specs.Bytes.{part}
use Rattle.h5_bytes.specs.Blocks.{block, IsKept, Keeps}
use Rattle.h5_bytes.specs.declared.Block.{Block}
use Rattle.h5_bytes.proofs.BlockLaws.{all_left, all_right, all_so}
use Rattle.h5_model.specs.Format.Limits.{highest_level}
use Rattle.h5_model.specs.Format.Nodes.{HasTree, Kind, node_at, tree_blocks}
use Rattle.h5_model.specs.Format.Chunks.{Chunks}
use Rattle.h5_model.specs.Format.Reached.{Shape, shape_kind}
use Rattle.h5_model.specs.Format.Rows.{Node, Reading}
use Rattle.h5_model.specs.Format.Superblock.{chunk_k, k_values}
use Rattle.h5_model.proofs.KLaws.{same_chunk, same_length}
use Rattle.h5_model.proofs.Frames.{reading-same, tree-same, keeps_then, inside_longer}
use Rattle.h5_model.proofs.OneTree.{level_is, one_owned}
use Rattle.h5_space.specs.Moves.{Moves}
use Rattle.h5_space.specs.Space.{Space}
use Rattle.h5_space.specs.Whole.{IsApart}
use Rattle.h5_space.proofs.MovesLaws.{moves_apart, moves_beside, moves_kept, moves_then}
use Rattle.h5_btree.specs.Descent.{IsWayTo}
use Rattle.h5_btree.specs.Insertion.{IsFullWay}
use Rattle.h5_btree.specs.declared.way.Step.{Step}
use Rattle.h5_btree.proofs.TreeReadings.{Listed, owned_at}
use Rattle.h5_btree.proofs.WaySteps.{way_owned}
use Rattle.h5_chunks.specs.Edited.{AreChunksApart, HasChunksNow, IsFullAt}
use Rattle.std.specs.FinMap.{insert as with_chunk}
use Rattle.h5_chunks.specs.Put.{HasChunkPut, IsBlockBeside}
use Rattle.h5_chunks.specs.Read.{AreChunksRead}
use Rattle.h5_chunks.specs.Told.{chunk_blocks_told, chunks_told}
use Rattle.h5_chunks.specs.Way.{chunk_behind}
use Rattle.h5_chunks.proofs.ChunkFound.{stored_there}
use Rattle.h5_chunks.proofs.SoughtWays.{way_moved}
use Rattle.h5_chunks.proofs.FullWays.{own_ends}
use Rattle.h5_chunks.proofs.ToldLaws.{chunk_blocks_told-same, chunks_read-same, chunks_told-same}
use Rattle.h5_chunks.proofs.SuperblockStays.{k_stays, kind_stays, superblock_of}

-- bytes behind an old end are zero
pub zero_behind : (at len n : ℕ) (bytes : List ℕ) → length bytes ≤ at → at + len ≤ length bytes + n → part at len (bytes ++ replicate n 0) ≡ replicate len 0
unfolding part
zero_behind at len n bytes behind room = same_lists _ _ (grind (arith, places)) (λ k d l. grind (arith, places))

module _ (s u : Space) (shape : Shape) (root new : ℕ) (stand : AreChunksApart s shape root) (taken : Moves s u [] (block new shape.bytes ∷ [])) where
  abbrev blocks : List Block
  blocks = chunk_blocks_told s.bytes shape root

  abbrev kind : Kind
  kind = shape_kind s.bytes shape

  kept : Keeps s.bytes u.bytes blocks
  kept = moves_kept s u [] (block new shape.bytes ∷ []) blocks taken (λ p. omega (arith, stand.apart p)) (stand.read).inside

  pub k_still : k_values u.bytes ≡ k_values s.bytes
  k_still = k_stays s u [] (block new shape.bytes ∷ []) blocks taken stand.apart stand.long

  same_k : chunk_k u.bytes ≡ chunk_k s.bytes
  same_k = same_chunk u.bytes s.bytes k_still

  pub same_kind : shape_kind u.bytes shape ≡ kind
  same_kind = kind_stays s u shape k_still

  pub told_still : chunks_told u.bytes shape root ≡ chunks_told s.bytes shape root
  told_still = chunks_told-same s.bytes u.bytes shape root stand.read same_k kept

  blocks_still : chunk_blocks_told u.bytes shape root ≡ blocks
  blocks_still = chunk_blocks_told-same s.bytes u.bytes shape root stand.read same_k kept

  read_still : AreChunksRead u.bytes shape root
  read_still = chunks_read-same s.bytes u.bytes shape root stand.read same_k kept (inside_longer (length s.bytes) (length u.bytes) taken.grown blocks (stand.read).inside)

  -- the block stands beside the chunks
  pub beside_now : IsBlockBeside u shape root new
  beside_now = record {
    read = read_still;
    apart = subst (λ n. IsApart (block new shape.bytes ∷ block 0 n ∷ chunk_blocks_told u.bytes shape root) u.free (length u.bytes)) (sym (same_length u.bytes s.bytes k_still))
        (subst (λ (bs : List Block). IsApart (block new shape.bytes ∷ superblock_of s ∷ bs) u.free (length u.bytes)) (sym blocks_still)
        (moves_apart s u [] (block new shape.bytes ∷ []) (superblock_of s ∷ blocks) taken stand.apart));
    long = let grown = taken.grown in let long = stand.long in let same = same_length u.bytes s.bytes k_still in omega (arith, grown, long, same);
  }

  -- ---- its nodes say what they said

  abbrev owned : List ℕ
  owned = (stand.read.stored).owned

  abbrev level : ℕ
  level = (stand.read.stored).level

  abbrev list : List ℕ
  list = values (chunks_told s.bytes shape root)

  nodes_kept : Keeps s.bytes u.bytes (tree_blocks kind owned)
  nodes_kept = all_left (IsKept s.bytes u.bytes) (tree_blocks kind owned) (map (λ (at : ℕ). block at shape.bytes) list)
      (subst (Keeps s.bytes u.bytes) (stand.read.stored).laid kept)

  tree_still : HasTree u.bytes kind root level owned list
  tree_still = tree-same s.bytes u.bytes kind owned nodes_kept root level list (stored_there s.bytes shape root stand.read)

  pub node_still : (n : ℕ) → Listed (stand.read.stored).owned n → node_at u.bytes (shape_kind s.bytes shape) n ≡ node_at s.bytes (shape_kind s.bytes shape) n
  node_still n listed =
      sym (owned_at (node_at u.bytes kind) owned n listed) ∙ ap (λ (v : Reading). v n) (reading-same s.bytes u.bytes kind owned nodes_kept)
      ∙ owned_at (node_at s.bytes kind) owned n listed

  -- by the kind that nodes have in the image now
  abbrev kind_u : Kind
  kind_u = shape_kind u.bytes shape

  tree_own : HasTree u.bytes kind_u root level owned list
  tree_own = subst (λ (k : Kind). HasTree u.bytes k root level owned list) (sym same_kind) tree_still

  abbrev IsSame : Step → Type 0
  IsSame step = node_at s.bytes kind step.node ≡ node_at u.bytes kind_u step.node

  -- WHERE IT HAS NO ROOM for a chunk it had none
  module _ (short : length u.bytes < 2 ^ 64) (offsets : List ℕ) (same : length offsets ≡ length shape.sizes) where
    pub full_before : IsFullAt u.bytes shape root offsets → IsFullAt s.bytes shape root offsets
    full_before f =
        let high = f.high in
        let there : IsWayTo (node_at u.bytes kind_u) (chunk_behind offsets) (node_at u.bytes kind_u root).level root f.way
        = subst (λ (l : ℕ). IsWayTo (node_at u.bytes kind_u) (chunk_behind offsets) l root f.way) (sym f.high) f.sought in
        let ends = own_ends u shape root read_still (λ p. omega (arith, beside_now.apart p)) short offsets same f.way there in
        let one : (read_still.stored).owned ≡ owned
        = one_owned u.bytes kind_u root (read_still.stored).level level (read_still.stored).owned owned (values (chunks_told u.bytes shape root)) list
        (stored_there u.bytes shape root read_still) tree_own in
        let listed : AllByRecursion (λ (step : Step). Listed owned step.node) f.way
        = subst (λ (ns : List ℕ). AllByRecursion (λ (step : Step). Listed ns step.node) f.way) one
        (way_owned u kind_u root (read_still.stored).level f.way (read_still.stored).owned (values (chunks_told u.bytes shape root)) ends.0 ends.1) in
        let steps : AllByRecursion IsSame f.way
        = all_so (λ (step : Step). Listed owned step.node) IsSame f.way (λ step at. subst (λ (k : Kind). node_at s.bytes kind step.node ≡ node_at u.bytes k step.node) (sym same_kind) (sym (node_still step.node at))) listed in
        record {
          way = f.way;
          high = level_is s.bytes kind root level owned list (stored_there s.bytes shape root stand.read) ∙ sym (level_is u.bytes kind_u root level owned list tree_own) ∙ f.high;
          sought = way_moved (node_at u.bytes kind_u) (node_at s.bytes kind) (chunk_behind offsets) highest_level root f.way f.sought steps;
          nodes = full_steps f.way steps f.nodes;
        }
      where
        full_steps : (way : List Step) → AllByRecursion IsSame way → IsFullWay u.bytes kind_u way → IsFullWay s.bytes kind way
        full_steps [] all full = tt
        full_steps (step ∷ way) all full = (ap (λ (o : Node). length o.children) all.0 ∙ full.0 ∙ ap (λ n. 2 * n) same_k, full_steps way all.1 full.1)

  -- AND WHAT IS PUT IN is stored
  pub stored_now : (t : Space) (offsets : List ℕ) → HasChunkPut u t shape root offsets new → HasChunksNow s t shape root (with_chunk (chunks_told s.bytes shape root) offsets new)
  stored_now t offsets put = record {
    told = put.told ∙ ap (λ chunks. with_chunk chunks offsets new) told_still;
    stand = put.stand;
    moves = moves_then s u t blocks (block new shape.bytes ∷ blocks) (chunk_blocks_told t.bytes shape root)
        (moves_beside s u [] (block new shape.bytes ∷ []) blocks taken)
        (subst (λ (bs : List Block). Moves u t (block new shape.bytes ∷ bs) (chunk_blocks_told t.bytes shape root)) blocks_still put.moves);
    k = put.k ∙ k_still;
  }

  -- and the bytes of the others stay
  pub others_stay : (t : Space) (offsets : List ℕ) → HasChunkPut u t shape root offsets new
      → Keeps s.bytes t.bytes (map (λ (at : ℕ). block at shape.bytes) (values (chunks_told s.bytes shape root)))
  others_stay t offsets put =
      let first = all_right (IsKept s.bytes u.bytes) (tree_blocks kind owned) (map (λ (at : ℕ). block at shape.bytes) list)
      (subst (Keeps s.bytes u.bytes) (stand.read.stored).laid kept) in
      let second = subst (λ (chunks : Chunks). Keeps u.bytes t.bytes (map (λ (at : ℕ). block at shape.bytes) (values chunks))) told_still put.kept.1 in
      keeps_then s.bytes u.bytes t.bytes (map (λ (at : ℕ). block at shape.bytes) list) first second

  -- and so do its own: behind the old end they are zero
  pub zero_still : (n : ℕ) → u.bytes ≡ s.bytes ++ replicate n 0 → new + shape.bytes ≤ length u.bytes → length s.bytes ≤ new
      → (t : Space) (offsets : List ℕ) → HasChunkPut u t shape root offsets new → part new shape.bytes t.bytes ≡ replicate shape.bytes 0
  zero_still n bytes inside behind t offsets put =
      let long = ap length bytes ∙ length-append s.bytes (replicate n 0) ∙ ap (λ (m : ℕ). length s.bytes + m) (length-replicate n 0) in
      put.kept.0 ∙ ap (part new shape.bytes) bytes ∙ zero_behind new shape.bytes n s.bytes behind (omega (arith, long, inside))
