use Rattle.std.proofs.Common.{◌≡◌, ◌++◌, ◌∙◌, List, ℕ, ap, arith}
use Rattle.h5_model.specs.Format.MessageTypes.{data_layout_kind}
use Rattle.h5_model.specs.Format.Bodies.{chunked_bytes, padded_body}
use Rattle.h5_model.specs.Format.Plain.{message_bytes}
use Rattle.h5_repack.proofs.BlockLaws.ArrayParts.{length-chunked}
use Rattle.h5_repack.proofs.BlockLaws.Rooms.{body_written}
use Rattle.h5_repack.proofs.blocks.layout.push_chunked.Goals as goal

pub returns : goal.returns
returns c =
    let t = c.args.fixed.now in
    let chunk : c.read_chunk.new.chunk ≡ c.args.sizes.now = c.read_chunk.ensures in
    body_written data_layout_kind c.chunked_length.result _ c.in_ok-at.at c.args.out.now.items c.push_message_room.new.out.items c.deref_mut.result.now
    c.in_ok-at.ensures.room c.in_ok-at.ensures.place c.deref_mut.ensures.value c.deref_mut.ensures.len
    c.write_chunked_layout.new.bytes (chunked_bytes c.read_chunk.new.chunk c.args.tree t.size)
    (omega (arith, length-chunked c.read_chunk.new.chunk c.args.tree t.size, c.chunked_length.ensures)) c.write_chunked_layout.ensures.written
    ∙ ap (λ (sizes : List ℕ). c.args.out.now.items ++ message_bytes (data_layout_kind, padded_body (chunked_bytes sizes c.args.tree t.size))) chunk
