use Rattle.std.proofs.Common.{◌++◌, ap, ◌∙◌}
use Rattle.h5_model.proofs.EditLaws.{length-are_maxima}
use Rattle.h5_model.specs.Format.Fixed.{Fixed}
use Rattle.h5_model.specs.Format.Plain.{message_bytes}
use Rattle.h5_repack.specs.Bodies.Bodies.{type_message}
use Rattle.h5_repack.specs.Blocks.Parts.{prefix_bytes}
use Rattle.h5_repack.proofs.BlockLaws.ArrayParts.{header_pushed}
use Rattle.h5_repack.proofs.blocks.header.push_array_header.Goals as goal

pub messages_size-requires-clause-same : goal.messages_size-requires-clause-same
messages_size-requires-clause-same c = length-are_maxima c.args.array.now.sizes c.args.array.now.maxima (c.requires.array).bounded

pub returns : goal.returns
returns c =
    let a = c.args.array.now in
    let cells = c.args.cells.now in
    let o = c.args.others.now in
    header_pushed a cells o c.args.address c.args.references c.args.out.now.items c.push_prefix.new.out.items c.push_space.new.out.items c.push_type.new.out.items
    c.push_fill_message.new.out.items c.push_layout.new.out.items c.push_bytes.new.out.items
    (c.in_ok-push_prefix.ensures ∙ (λ i. c.args.out.now.items ++ prefix_bytes c.args.references (c.messages_count.ensures a cells c.args.address i)
    (c.messages_size.ensures.exact cells c.args.address (c.requires.array).room i)))
    c.in_ok-push_space.ensures
    (c.in_ok-push_type.ensures ∙ ap (λ (t : Fixed). c.push_space.new.out.items ++ message_bytes (type_message t)) c.fixed.ensures)
    c.in_ok-push_fill_message.ensures
    c.in_ok-push_layout.ensures
    (c.in_ok-push_bytes.ensures ∙ ap (λ bytes. c.push_layout.new.out.items ++ bytes) c.bytes.ensures.bytes)
