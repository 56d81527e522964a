use Rattle.std.proofs.Common.{arith}
use Rattle.h5_btree.proofs.NodeLaws.{small_length}
use Rattle.h5_btree.proofs.kind.NodeKind.node_length.Goals as goal

pub overflow_mul-result : goal.overflow_mul-result
overflow_mul-result c = omega (arith, small_length c.key_length-2.result c.capacity.result c.key_length-2.ensures.most c.capacity.ensures.most)

pub overflow_add-result-3 : goal.overflow_add-result-3
overflow_add-result-3 c = omega (arith, small_length c.key_length-2.result c.capacity.result c.key_length-2.ensures.most c.capacity.ensures.most)
