-- Where blocks are moved that share no byte with the superblock, all K values stay.
use Rattle.std.proofs.Common.{◌≡◌, ◌≤◌, List, [], ◌∷◌, ◌++◌, length, ap, arith}
use Rattle.h5_bytes.specs.Blocks.{block}
use Rattle.h5_bytes.specs.declared.Block.{Block}
use Rattle.h5_bytes.proofs.BlockLaws.{cover-append}
use Rattle.h5_model.specs.Format.Nodes.{chunk_kind}
use Rattle.h5_model.specs.Format.Reached.{Shape, shape_kind}
use Rattle.h5_model.specs.Format.Superblock.{k_values, superblock_length}
use Rattle.h5_model.proofs.KLaws.{k_values_stay, same_chunk}
use Rattle.h5_space.specs.Moves.{Moves}
use Rattle.h5_space.specs.Space.{Space}
use Rattle.h5_space.specs.Whole.{IsApart}
use Rattle.h5_space.proofs.MovesLaws.{moves_kept}

abbrev pub superblock_of : Space → Block
superblock_of s = block 0 (superblock_length s.bytes)

pub k_stays : (s t : Space) (a b more : List Block) → Moves s t a b → IsApart (a ++ (superblock_of s ∷ more)) s.free (length s.bytes)
    → superblock_length s.bytes ≤ length s.bytes → k_values t.bytes ≡ k_values s.bytes
k_stays s t a b more moved apart long =
    let first : List Block = superblock_of s ∷ [] in
    let kept = moves_kept s t a b first moved (λ p. omega (arith, apart p, cover-append p a (superblock_of s ∷ more), cover-append p a first)) (omega (arith, long), tt) in
    k_values_stay s.bytes t.bytes (superblock_length s.bytes) (omega arith) kept.0

-- so the nodes of trees of chunks have the same kind
pub kind_stays : (s t : Space) (shape : Shape) → k_values t.bytes ≡ k_values s.bytes → shape_kind t.bytes shape ≡ shape_kind s.bytes shape
kind_stays s t shape same = ap (λ k. chunk_kind k (length shape.sizes)) (same_chunk t.bytes s.bytes same)
