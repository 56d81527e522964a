use Rattle.std.proofs.Common.{◌≡◌, ℕ, List, Option, ◌-◌, ◌*◌, ◌++◌, length, take, drop, ap, ◌∙◌, sym}
use Rattle.std.specs.Prelude.{unwrap_or}
use Rattle.h5_model.specs.Format.MessageTypes.{attribute_kind}
use Rattle.h5_bytes.specs.Texts.{pad8}
use Rattle.h5_model.specs.Format.Bodies.{attribute_bytes, stored_attribute_bytes}
use Rattle.h5_model.specs.Format.Plain.{message_bytes}
use Rattle.h5_model.specs.Format.Sizes.{attribute_size}
use Rattle.h5_model.specs.Tree.Places.{cells}
use Rattle.h5_model.proofs.PlainValues.{length-cells_bytes}
use Rattle.h5_repack.specs.Bodies.Bodies.{attribute_body}
use Rattle.h5_repack.proofs.BlockLaws.AttributeParts.{length-body}
use Rattle.h5_repack.proofs.BlockLaws.Rooms.{length-lent, part_written}
use Rattle.h5_repack.proofs.blocks.attribute.push_stored_attribute.Goals as goal

pub write_stored_attribute-requires-clause-stored : goal.write_stored_attribute-requires-clause-stored
write_stored_attribute-requires-clause-stored c =
    let a = c.args.attr.now.1 in
    let sizes : c.sizes-sizes.result.now ≡ a.sizes = c.sizes-sizes.ensures.numbers ∙ c.dims-dims.ensures in
    let counted : length a.values ≡ cells c.sizes-sizes.result.now = c.requires.counted ∙ ap cells (sym sizes) in
    ap length c.stored.ensures ∙ length-cells_bytes a.fixed a.values ∙ (λ i. counted i * (sym c.fixed-fixed.ensures i).size)

pub returns : goal.returns
returns c =
    let attr = c.args.attr.now in
    let a = attr.1 in
    let name : c.name-name.result.now ≡ attr.0 = c.name-name.ensures in
    let fixed : c.fixed-fixed.result ≡ a.fixed = c.fixed-fixed.ensures in
    let sizes : c.sizes-sizes.result.now ≡ a.sizes = c.sizes-sizes.ensures.numbers ∙ c.dims-dims.ensures in
    let used : c.attribute_length-size.result ≡ attribute_size (length attr.0) a.sizes (a.fixed).size
    = c.attribute_length-size.ensures a.sizes (ap length (sym sizes)) (sym c.cells.ensures.cells)
    ∙ (λ i. attribute_size (length (name i)) a.sizes (fixed i).size) in
    let room : length (take (length c.deref_mut.result.now - c.in_ok-at.at) (drop c.in_ok-at.at c.deref_mut.result.now)) ≡ pad8 (attribute_size (length attr.0) a.sizes (a.fixed).size)
    =
    length-lent 12 c.attribute_length-size.result _ c.in_ok-at.at c.args.out.now.items c.push_message_room.new.out.items c.deref_mut.result.now
    c.in_ok-at.ensures.room c.in_ok-at.ensures.place c.deref_mut.ensures.value c.deref_mut.ensures.len ∙ ap pad8 used in
    let body : c.write_stored_attribute.new.bytes ≡ attribute_bytes attr.0 a.fixed a.sizes a.values (pad8 (attribute_size (length attr.0) a.sizes (a.fixed).size))
    = c.write_stored_attribute.ensures.written ∙ (λ i. stored_attribute_bytes (name i) (fixed i) (sizes i) (c.stored.ensures i) (room i)) in
    part_written 12 c.attribute_length-size.result _ c.in_ok-at.at c.args.out.now.items c.push_message_room.new.out.items c.deref_mut.result.now
    c.in_ok-at.ensures.room c.in_ok-at.ensures.place c.deref_mut.ensures.value c.deref_mut.ensures.len
    c.write_stored_attribute.new.bytes (ap length body ∙ length-body attr.0 a c.requires ∙ ap pad8 (sym used))
    ∙ ap (λ bytes. c.args.out.now.items ++ message_bytes (attribute_kind, bytes)) (body ∙ ap (λ (b : Option (List ℕ)). unwrap_or b (attribute_body attr.0 a)) c.in_default.ensures)
