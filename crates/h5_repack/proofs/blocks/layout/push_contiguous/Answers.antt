use Rattle.std.proofs.Common.{refl}
use Rattle.h5_model.specs.Format.MessageTypes.{data_layout_kind}
use Rattle.h5_model.specs.Format.Bodies.{contiguous_bytes}
use Rattle.h5_repack.proofs.BlockLaws.Rooms.{body_written}
use Rattle.h5_repack.proofs.blocks.layout.push_contiguous.Goals as goal

pub returns : goal.returns
returns c =
    body_written data_layout_kind 18 _ c.in_ok-at.at c.args.out.now.items c.push_message_room.new.out.items c.deref_mut.result.now
    c.in_ok-at.ensures.room c.in_ok-at.ensures.place c.deref_mut.ensures.value c.deref_mut.ensures.len
    c.write_contiguous_layout.new.bytes (contiguous_bytes c.args.address c.args.len) refl c.write_contiguous_layout.ensures.written
