use Rattle.std.proofs.Common.{[]}
use Rattle.std.specs.List.{flat_map}
use Rattle.h5_heap.specs.Kept.{segment_in}
use Rattle.h5_group.specs.Texts.Linked.{linked_at}
use Rattle.h5_group.specs.Texts.Taken.{AreUnsound}
use Rattle.h5_group.proofs.TextProofs.LinkedLaws.{segment_same, empty_refused}
use Rattle.h5_group.proofs.TextProofs.TextLaws.{same_begun, taken_begun, taken_now}
use Rattle.h5_group.proofs.texts.linked.take_names.Goals as goal

pub returns-in-Ok-clause-taken : goal.returns-in-Ok-clause-taken
returns-in-Ok-clause-taken c = λ yes.
    let image = c.args.image.now.bytes in
    let heap = c.args.heap.now in
    let empty = c.in-Ok.ensures.begun c.requires.held c.requires.none in
    taken_now image heap c.begin_names.new.self c.in-Ok.ensures.held empty c.take_linked.new.heap
    (flat_map (linked_at image) c.args.symbol_nodes.now) (c.take_linked.ensures.takes yes)

pub returns-in-Ok-clause-refused : goal.returns-in-Ok-clause-refused
returns-in-Ok-clause-refused c = λ no sound.
    let image = c.args.image.now.bytes in
    let heap = c.args.heap.now in
    let begun = c.begin_names.new.self in
    let empty = c.in-Ok.ensures.begun c.requires.held c.requires.none in
    let same = same_begun image heap begun c.in-Ok.ensures.held empty in
    let is = segment_same image heap begun same in
    let unsound : AreUnsound (segment_in image begun) begun.free (flat_map (linked_at image) c.args.symbol_nodes.now)
    = c.take_linked.ensures.refused no (rw is sound) [] (taken_begun image heap begun c.in-Ok.ensures.held empty) in
    rw (is, same.free) at unsound

pub returns-in-Err-clause-refused : goal.returns-in-Err-clause-refused
returns-in-Err-clause-refused c = λ no sound.
    empty_refused (segment_in c.args.image.now.bytes c.args.heap.now) c.args.heap.now c.requires.held _ c.in-Err.ensures.refused
    (flat_map (linked_at c.args.image.now.bytes) c.args.symbol_nodes.now)
