use Rattle.std.proofs.Common.{refl}
use Rattle.h5_model.specs.Format.MessageTypes.{datatype_kind}
use Rattle.h5_model.specs.Format.Bodies.{datatype_bytes}
use Rattle.h5_repack.proofs.BlockLaws.Rooms.{body_written}
use Rattle.h5_repack.proofs.blocks.header.push_type.Goals as goal

pub returns : goal.returns
returns c =
    body_written datatype_kind 12 _ c.in_ok-at.at c.args.out.now.items c.push_message_room.new.out.items c.deref_mut.result.now
    c.in_ok-at.ensures.room c.in_ok-at.ensures.place c.deref_mut.ensures.value c.deref_mut.ensures.len
    c.write_datatype.new.bytes (datatype_bytes c.args.fixed.now) refl c.write_datatype.ensures.written
