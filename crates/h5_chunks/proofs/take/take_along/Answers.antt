use Rattle.std.proofs.Common.{◌<◌, ◌≤◌, ◌^◌, length, ap, arith}
use Rattle.h5_model.specs.Format.Reached.{Shape}
use Rattle.h5_chunks.proofs.TakenAlong.{given_held, given_inside, given_kept, given_taken, node_there, place_there, somewhere}
use Rattle.h5_chunks.proofs.take.take_along.Goals as goal

pub tree_node-requires-clause-there : goal.tree_node-requires-clause-there
tree_node-requires-clause-there c =
    let short : length c.args.image.now.bytes < 2 ^ 64 = (let same = ap length c.bytes-length.ensures in omega (arith, same)) in
    node_there c.args.image.now c.args.shape.now c.args.root c.requires.chunks short c.args.offsets.now c.args.way.now c.requires.way
    c.steps.result.now c.steps.ensures.steps

pub child-chunk-requires : goal.child-chunk-requires
child-chunk-requires c =
    let short : length c.args.image.now.bytes < 2 ^ 64 = (let same = ap length c.bytes-length.ensures in omega (arith, same)) in
    place_there c.args.image.now c.args.shape.now c.args.root c.requires.chunks short c.args.offsets.now c.args.way.now c.requires.way
    c.steps.result.now c.steps.ensures.steps c.tree_node.result c.tree_node.ensures

pub take_from-requires-clause-ends : goal.take_from-requires-clause-ends
take_from-requires-clause-ends c =
    let short : length c.args.image.now.bytes < 2 ^ 64 = (let same = ap length c.bytes-length.ensures in omega (arith, same)) in
    somewhere c.args.image.now c.args.shape.now c.args.root c.requires.chunks short c.args.offsets.now c.args.way.now c.requires.way
    c.steps.result.now c.steps.ensures.steps c.kind-kind.result c.kind-kind.ensures

pub give-requires-clause-inside : goal.give-requires-clause-inside
give-requires-clause-inside c =
    let short : length c.args.image.now.bytes < 2 ^ 64 = (let same = ap length c.bytes-length.ensures in omega (arith, same)) in
    given_inside c.args.image.now c.args.shape.now c.args.root c.requires.chunks short c.args.offsets.now c.args.way.now c.requires.way
    c.steps.result.now c.steps.ensures.steps c.tree_node.result c.tree_node.ensures c.child-chunk.result c.child-chunk.ensures c.take_from.new.image
    c.kind-kind.result c.kind-kind.ensures c.take_from.ensures.taken c.shape.inside.bytes (ap (λ (s : Shape). s.bytes) c.shape.view_is)

pub give-requires-clause-held : goal.give-requires-clause-held
give-requires-clause-held c =
    let short : length c.args.image.now.bytes < 2 ^ 64 = (let same = ap length c.bytes-length.ensures in omega (arith, same)) in
    given_held c.args.image.now c.args.shape.now c.args.root c.requires.chunks short c.args.offsets.now c.args.way.now c.requires.way
    c.steps.result.now c.steps.ensures.steps c.tree_node.result c.tree_node.ensures c.child-chunk.result c.child-chunk.ensures c.take_from.new.image
    c.kind-kind.result c.kind-kind.ensures c.take_from.ensures.taken c.shape.inside.bytes (ap (λ (s : Shape). s.bytes) c.shape.view_is)

pub returns-clause-kept : goal.returns-clause-kept
returns-clause-kept c =
    let short : length c.args.image.now.bytes < 2 ^ 64 = (let same = ap length c.bytes-length.ensures in omega (arith, same)) in
    given_kept c.args.image.now c.args.shape.now c.args.root c.requires.chunks short c.args.offsets.now c.args.way.now c.requires.way
    c.steps.result.now c.steps.ensures.steps c.tree_node.result c.tree_node.ensures c.child-chunk.result c.child-chunk.ensures c.take_from.new.image
    c.kind-kind.result c.kind-kind.ensures c.take_from.ensures.taken c.shape.inside.bytes (ap (λ (s : Shape). s.bytes) c.shape.view_is)
    c.give.new.self c.give.ensures.bytes

pub returns-clause-taken : goal.returns-clause-taken
returns-clause-taken c =
    let short : length c.args.image.now.bytes < 2 ^ 64 = (let same = ap length c.bytes-length.ensures in omega (arith, same)) in
    let size : length c.take_from.new.image.bytes ≤ length c.args.image.now.bytes = (let grown = c.take_from.ensures.spends.grown in omega (arith, grown)) in
    given_taken c.args.image.now c.args.shape.now c.args.root c.requires.chunks short c.args.offsets.now c.args.way.now c.requires.way
    c.steps.result.now c.steps.ensures.steps c.tree_node.result c.tree_node.ensures c.child-chunk.result c.child-chunk.ensures c.take_from.new.image
    c.kind-kind.result c.kind-kind.ensures c.take_from.ensures.taken c.shape.inside.bytes (ap (λ (s : Shape). s.bytes) c.shape.view_is) c.requires.rank
    c.requires.there c.give.new.self c.give.ensures.bytes c.give.ensures.given size
