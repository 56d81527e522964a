use Rattle.std.proofs.Common.{◌*◌, arith}
use Rattle.h5_repack.proofs.BlockLaws.StoredChunks.{nodes_low}
use Rattle.h5_repack.proofs.blocks.chunks.nodes_length.Goals as goal

pub overflow_mul-result : goal.overflow_mul-result
overflow_mul-result c =
    let low = nodes_low c.nodes_over.result c.node_length.result c.args.kind.now c.requires.most c.requires.short c.nodes_over.ensures.few c.node_length.ensures.length in
    omega (arith, low)

pub returns-clause-exact : goal.returns-clause-exact
returns-clause-exact c = λ i. c.nodes_over.ensures.exact i * c.node_length.ensures.length i

pub returns-clause-few : goal.returns-clause-few
returns-clause-few c =
    let low = nodes_low c.nodes_over.result c.node_length.result c.args.kind.now c.requires.most c.requires.short c.nodes_over.ensures.few c.node_length.ensures.length in
    omega (arith, low)
