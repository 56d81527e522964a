use Rattle.std.proofs.Common.{◌≡◌, ◌+◌, ◌*◌, ◌^◌, ◌<◌, ◌≤◌, refl, ap, arith, length, sym, subst, take, drop, ◌∙◌}
use Rattle.h5_model.specs.Format.Nodes.{node_length}
use Rattle.h5_btree.specs.Writing.Written.{AllFit, right_of}
use Rattle.h5_btree.proofs.WriteLaws.RowReads.{last_fits}
use Rattle.h5_btree.proofs.WriteLaws.Steps.{drop_fits, length-rest, rest_of, rest_room, right_none, right_some, none_left, row_step, some_left, take_fits}
use Rattle.h5_btree.proofs.write.row.push_row.Goals as goal
use Rattle.h5_btree.proofs.write.row.push_row.Goals.{then-is_empty, else-is_empty}

pub loop-rest-init : goal.loop-rest-init
loop-rest-init g c = record {
  written = refl;
  room = subst (λ n. c.args.at + n * node_length c.args.kind.now < 2 ^ 63)
      (sym (length-rest (2 * c.args.kind.now.k) c.args.children.now (omega (arith, c.requires.low)) c.requires.some)) c.requires.room;
  first = c.requires.first;
  keys = c.requires.keys;
}

pub overflow_add-next : goal.overflow_add-next
overflow_add-next g c =
    let some : 1 ≤ length c.loop-rest.rest.now = some_left (length c.loop-rest.rest.now) c.loop-rest-test.ensures in
    let room = rest_room (2 * c.args.kind.now.k) (node_length c.args.kind.now) c.loop-rest.place c.loop-rest.rest.now (omega (arith, c.requires.low)) some c.loop-rest.invariant.room in
    omega (arith, room.0, c.node_length.ensures.length)

pub push_node-requires-clause-first : goal.push_node-requires-clause-first
push_node-requires-clause-first g c = c.loop-rest.invariant.first

pub push_node-requires-clause-keys : goal.push_node-requires-clause-keys
push_node-requires-clause-keys g c =
    subst (AllFit c.args.kind.now g.K.TreeKey.bytes) (sym c.split_node.ensures.first)
    (take_fits c.args.kind.now g.K.TreeKey.bytes c.capacity.result c.loop-rest.rest.now c.loop-rest.invariant.keys)

pub loop-rest-preserved : goal.loop-rest-preserved
loop-rest-preserved g c =
    let kind = c.args.kind.now in
    let bytes = g.K.TreeKey.bytes in
    let some : 1 ≤ length c.loop-rest.rest.now = some_left (length c.loop-rest.rest.now) c.loop-rest-test.ensures in
    let room = rest_room (2 * kind.k) (node_length kind) c.loop-rest.place c.loop-rest.rest.now (omega (arith, c.requires.low)) some c.loop-rest.invariant.room in
    let node = c.split_node.ensures.first ∙ ap (λ m. take m c.loop-rest.rest.now) c.capacity.ensures.capacity in
    let others = c.split_node.ensures.others ∙ ap (λ m. drop m c.loop-rest.rest.now) c.capacity.ensures.capacity in
    let right : c.if-is_empty.right ≡ right_of kind c.loop-rest.place (rest_of (2 * kind.k) c.split_node.result.1.now)
    = elim c.if-is_empty.branch [
      | then-is_empty w ↦ w.right-is ∙ sym (right_none kind c.requires.low c.loop-rest.place c.split_node.result.1.now (none_left (length c.split_node.result.1.now) w.if-is_empty.ensures))
      | else-is_empty w ↦ w.right-is ∙ ap (λ n. c.loop-rest.place + n) c.node_length.ensures.length
          ∙ sym (right_some kind c.requires.low c.loop-rest.place c.split_node.result.1.now (some_left (length c.split_node.result.1.now) w.if-is_empty.ensures))
    ] in
    let fit = subst (AllFit kind bytes) (sym c.split_node.ensures.first) (take_fits kind bytes c.capacity.result c.loop-rest.rest.now c.loop-rest.invariant.keys) in
    record {
      written = row_step kind c.requires.low bytes c.args.level c.loop-rest.left c.if-is_empty.right c.loop-rest.before c.loop-rest.place c.node_length.result
          c.last_below-before.result c.loop-rest.out.items c.push_node.new.out.items _ c.loop-rest.rest.now c.split_node.result.0.now c.split_node.result.1.now some
          node others c.last_below-before.ensures c.node_length.ensures.length right c.in_ok-push_node.ensures c.loop-rest.invariant.written;
      room = rw (c.node_length.ensures.length, others) room.1;
      first = rw c.last_below-before.ensures (last_fits kind bytes c.loop-rest.before c.split_node.result.0.now c.loop-rest.invariant.first fit);
      keys = subst (AllFit kind bytes) (sym c.split_node.ensures.others) (drop_fits kind bytes c.capacity.result c.loop-rest.rest.now c.loop-rest.invariant.keys);
    }
