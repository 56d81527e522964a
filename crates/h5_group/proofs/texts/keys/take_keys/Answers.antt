use Rattle.std.proofs.Common.{arith}
use Rattle.std.proofs.lemmas.Result.{err_from_is_err_and}
use Rattle.h5_group.specs.Nodes.Stands.{keys_at}
use Rattle.h5_group.proofs.TextProofs.KeyLaws.{names_step, refused_step}
use Rattle.h5_group.proofs.texts.keys.take_keys.Goals as goal

pub returns-in_err-take_node-clause-refused : goal.returns-in_err-take_node-clause-refused
returns-in_err-take_node-clause-refused c =
    let image = c.args.image.now.bytes in
    let p = err_from_is_err_and c.from_residual.result c.from_residual.ensures.1 in
    rw (p.1, p.2) (refused_step (keys_at image) c.args.nodes.now c.loop-at.at-index (omega arith) image c.args.heap.now c.loop-at.heap c.loop-at.invariant _
    c.in_err-take_node.ensures.refused)

pub loop-at-preserved : goal.loop-at-preserved
loop-at-preserved c =
    let image = c.args.image.now.bytes in
    names_step (keys_at image) c.args.nodes.now c.loop-at.at-index (omega arith) image c.args.heap.now c.loop-at.heap c.loop-at.invariant
    c.take_node.new.heap c.in_ok-take_node.ensures.names
