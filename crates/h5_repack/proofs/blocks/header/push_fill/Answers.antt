use Rattle.std.proofs.Common.{◌≡◌, ◌++◌, rules, to_z, of_z, sym, ◌∙◌}
use Rattle.std.specs.Int.{w128}
use Rattle.std.specs.Prelude.{if◌then◌else◌}
use Rattle.h5_model.specs.Format.MessageTypes.{fill_value_kind}
use Rattle.h5_model.specs.Format.Bodies.{fill_bytes, padded_body}
use Rattle.h5_model.specs.Format.Plain.{message_bytes}
use Rattle.h5_msg.specs.Times.{time_number}
use Rattle.h5_msg.proofs.FillLaws.{length-fill_bytes}
use Rattle.h5_repack.proofs.BlockLaws.Rooms.{body_written}
use Rattle.h5_repack.proofs.blocks.header.push_fill.Goals as goal

pub returns : goal.returns
returns c =
    let t = c.args.fixed.now in
    let value : to_z w128 (of_z w128 c.args.fill) ≡ c.args.fill = search rules in
    let time : time_number c.allocation_time.result ≡ (if c.args.chunked then 3 else 1) = c.allocation_time.ensures in
    body_written fill_value_kind c.fill_length.result _ c.in_ok-at.at c.args.out.now.items c.push_message_room.new.out.items c.deref_mut.result.now
    c.in_ok-at.ensures.room c.in_ok-at.ensures.place c.deref_mut.ensures.value c.deref_mut.ensures.len
    c.write_fill.new.bytes (fill_bytes (time_number c.allocation_time.result) t (to_z w128 (of_z w128 c.args.fill)))
    (length-fill_bytes (time_number c.allocation_time.result) t (to_z w128 (of_z w128 c.args.fill)) ∙ sym c.fill_length.ensures.exact) c.write_fill.ensures.written
    ∙ (λ i. c.args.out.now.items ++ message_bytes (fill_value_kind, padded_body (fill_bytes (time i) t (value i))))
