use Rattle.std.proofs.Common.{◌*◌, ◌+◌, ◌^◌, ◌<◌, ◌≤◌, ◌∙◌, refl, arith, ap, length, subst, sym, take, drop}
use Rattle.h5_model.specs.Format.Nodes.{node_length}
use Rattle.h5_btree.proofs.WriteLaws.Steps.{length-rest, raised_step, rest_room, some_left}
use Rattle.h5_btree.proofs.write.row.raise.Goals as goal

pub loop-rest-init : goal.loop-rest-init
loop-rest-init g c = record {
  written = rw c.in_ok-row.ensures.items refl;
  room = subst (λ n. c.args.at + n * node_length c.args.kind.now < 2 ^ 63)
      (sym (length-rest (2 * c.args.kind.now.k) c.args.children.now (omega (arith, c.requires.low)) c.requires.some)) c.requires.room;
}

pub overflow_add-place : goal.overflow_add-place
overflow_add-place g c =
    let some : 1 ≤ length c.loop-rest.rest.now = some_left (length c.loop-rest.rest.now) c.loop-rest-test.ensures in
    let room = rest_room (2 * c.args.kind.now.k) (node_length c.args.kind.now) c.loop-rest.place c.loop-rest.rest.now (omega (arith, c.requires.low)) some c.loop-rest.invariant.room in
    omega (arith, room.0, c.node_length.ensures.length)

pub loop-rest-preserved : goal.loop-rest-preserved
loop-rest-preserved g c =
    let some : 1 ≤ length c.loop-rest.rest.now = some_left (length c.loop-rest.rest.now) c.loop-rest-test.ensures in
    let room = rest_room (2 * c.args.kind.now.k) (node_length c.args.kind.now) c.loop-rest.place c.loop-rest.rest.now (omega (arith, c.requires.low)) some c.loop-rest.invariant.room in
    let node = c.split_node.ensures.first ∙ ap (λ m. take m c.loop-rest.rest.now) c.capacity-in-loop-rest.ensures.capacity in
    let others = c.split_node.ensures.others ∙ ap (λ m. drop m c.loop-rest.rest.now) c.capacity-in-loop-rest.ensures.capacity in
    record {
      written = raised_step c.args.kind.now c.requires.low c.loop-rest.place c.loop-rest.before c.node_length.result c.last_below-before.result c.loop-rest.row.items
          c.push.new.self.items c.loop-rest.rest.now c.split_node.result.0.now c.split_node.result.1.now _ some node others
          c.last_below-before.ensures c.node_length.ensures.length c.in_ok-push.ensures.items c.loop-rest.invariant.written;
      room = rw (c.node_length.ensures.length, others) room.1;
    }
