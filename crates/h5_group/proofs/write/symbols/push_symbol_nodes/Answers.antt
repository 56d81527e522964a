use Rattle.std.proofs.Common.{◌+◌, arith}
use Rattle.h5_group.proofs.WriteLaws.Steps.{spans_there, spans_more, nodes_more}
use Rattle.h5_group.proofs.write.symbols.push_symbol_nodes.Goals as goal

pub push_symbol_node-requires-clause-names : goal.push_symbol_node-requires-clause-names
push_symbol_node-requires-clause-names c =
    let spans = spans_there c.args.leaf c.loop-from.name c.loop-from.from (c.loop-from.from + c.min.result) c.args.links.now c.requires.low c.loop-from-test.true
    (omega (arith, c.min.ensures, c.from-room.ensures)) in
    omega (arith, spans, c.loop-from.invariant.spans, c.requires.names)

pub loop-from-preserved : goal.loop-from-preserved
loop-from-preserved c = record {
  nodes = nodes_more c.args.leaf c.loop-from.name c.loop-from.from (c.loop-from.from + c.min.result) c.args.links.now c.requires.low c.loop-from-test.true
      (omega (arith, c.min.ensures, c.from-room.ensures)) c.in_ok-name.name _ _ _ c.in_ok-name.ensures.next c.in_ok-name.ensures.node c.loop-from.invariant.nodes;
  spans = spans_more c.args.leaf c.loop-from.name c.loop-from.from (c.loop-from.from + c.min.result) c.args.links.now c.requires.low c.loop-from-test.true
      (omega (arith, c.min.ensures, c.from-room.ensures)) c.in_ok-name.name _ c.in_ok-name.ensures.next c.loop-from.invariant.spans;
  within = omega (arith, c.min.ensures, c.loop-from-test.true);
}
