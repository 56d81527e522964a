use Rattle.std.proofs.Common.{ℕ, ◌+◌, ◌*◌, ◌≤◌, arith}
use Rattle.std.proofs.Math.Nat.{mul-le-mul_left}
use Rattle.h5_model.specs.Format.Limits.{most_dimensions}
use Rattle.h5_model.specs.Format.Superblock.{highest_k}
use Rattle.h5_model.specs.Format.Nodes.{chunk_kind, node_length}
use Rattle.h5_layout.proofs.storage.room_for.Goals as goal

-- the longest node there is
node_few : (k rank : ℕ) → k ≤ highest_k → rank ≤ most_dimensions → node_length (chunk_kind k rank) ≤ 18349816
node_few k rank low few =
    let key = 8 + 8 * (rank + 1) in
    let wide : 2 * k * (key + 8) ≤ 2 * k * 280 = mul-le-mul_left (2 * k) (omega (arith, few)) in
    omega (arith, wide, low, few)

pub overflow_mul-node : goal.overflow_mul-node
overflow_mul-node c = omega (arith, c.chunk_node_length-node.ensures, node_few _ _ c.requires.k c.requires.few)

pub overflow_add-length : goal.overflow_add-length
overflow_add-length c = omega (arith, c.chunk_node_length-node.ensures, node_few _ _ c.requires.k c.requires.few, c.requires.small)
