use Rattle.std.proofs.Common.{◌≡◌, ◌+◌, ◌*◌, ◌≤◌, map, arith, refl, sym, subst}
use Rattle.h5_model.specs.Format.Limits.{most_bytes}
use Rattle.h5_model.specs.Format.Sizes.{symbol_node}
use Rattle.h5_heap.specs.Writing.Links.{name_and_leads}
use Rattle.h5_group.proofs.WriteLaws.Steps.{spans_there, spans_more, children_more, room_more, nodes_end}
use Rattle.h5_group.proofs.write.symbols.symbol_children.Goals as goal

pub loop-from-init : goal.loop-from-init
loop-from-init c = record {
  nodes = rw c.new-children.ensures.items refl;
  room = subst (λ n. c.args.at + n * symbol_node c.args.leaf ≤ most_bytes) (sym (nodes_end c.args.leaf (map name_and_leads c.args.links.now) c.requires.low)) c.requires.nodes;
  spans = refl;
  within = omega arith;
}

pub name_offsets-last-requires : goal.name_offsets-last-requires
name_offsets-last-requires c =
    let spans = spans_there c.args.leaf c.loop-from.name c.loop-from.from (c.loop-from.from + c.min.result) c.args.links.now c.requires.low c.loop-from-test.true
    (omega (arith, c.min.ensures, c.from-room.ensures)) in
    omega (arith, spans, c.loop-from.invariant.spans, c.requires.names)

pub loop-from-preserved : goal.loop-from-preserved
loop-from-preserved c =
    let beyond : c.loop-from.node + (8 + 80 * c.from.result) ≡ c.loop-from.node + symbol_node c.args.leaf = omega (arith, c.from.ensures) in
    record {
      nodes = children_more c.args.leaf c.loop-from.name c.loop-from.from (c.loop-from.from + c.min.result) c.args.links.now c.requires.low c.loop-from-test.true
          (omega (arith, c.min.ensures, c.from-room.ensures)) c.name_offsets-last.result.next _ _ _ _ _ _ c.name_offsets-last.ensures.next beyond
          c.name_offsets-last.ensures.last c.in_ok-push.ensures.items c.loop-from.invariant.nodes;
      room = subst (λ n. n ≤ most_bytes) (room_more c.args.leaf c.loop-from.name c.loop-from.from (c.loop-from.from + c.min.result) c.args.links.now c.requires.low c.loop-from-test.true
          (omega (arith, c.min.ensures, c.from-room.ensures)) c.name_offsets-last.result.next _ _ c.name_offsets-last.ensures.next beyond) c.loop-from.invariant.room;
      spans = spans_more c.args.leaf c.loop-from.name c.loop-from.from (c.loop-from.from + c.min.result) c.args.links.now c.requires.low c.loop-from-test.true
          (omega (arith, c.min.ensures, c.from-room.ensures)) c.name_offsets-last.result.next _ c.name_offsets-last.ensures.next c.loop-from.invariant.spans;
      within = omega (arith, c.min.ensures, c.loop-from-test.true);
    }
