use Rattle.std.proofs.Common.{arith}
use Rattle.h5_model.specs.Format.MessageTypes.{data_layout_kind}
use Rattle.h5_model.specs.Format.Bodies.{compact_bytes}
use Rattle.h5_repack.proofs.BlockLaws.Rooms.{body_written}
use Rattle.h5_repack.proofs.blocks.layout.push_compact_data.Goals as goal

pub returns : goal.returns
returns c =
    body_written data_layout_kind c.compact_length.result _ c.in_ok-at.at c.args.out.now.items c.push_message_room.new.out.items c.deref_mut.result.now
    c.in_ok-at.ensures.room c.in_ok-at.ensures.place c.deref_mut.ensures.value c.deref_mut.ensures.len
    c.write_compact_layout.new.bytes (compact_bytes c.args.bytes.now) (omega (arith, c.compact_length.ensures)) c.write_compact_layout.ensures.written
