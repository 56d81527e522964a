use Rattle.std.proofs.Common.{arith}
use Rattle.h5_bytes.proofs.PartLaws.{length-part}
use Rattle.h5_heap.specs.Kept.{segment_in}
use Rattle.h5_group.proofs.TextProofs.EmptyNames.{is_empty_name, no_empty_name}
use Rattle.h5_group.proofs.texts.names.has_empty_name.Goals as goal

pub returns-in-Ok : goal.returns-in-Ok
returns-in-Ok c = is_empty_name (segment_in c.args.image.now.bytes c.args.heap.now) c.in-Ok.name.now c.is_empty.result c.in-Ok.ensures.text c.is_empty.ensures

pub returns-in-Err : goal.returns-in-Err
returns-in-Err c =
    let heap = c.args.heap.now in
    let long = length-part heap.segment.at heap.segment.len c.args.image.now.bytes c.requires.within in
    let room = c.requires.room in
    no_empty_name (segment_in c.args.image.now.bytes heap) (omega (arith, long, room)) c.in-Err.ensures.refused
