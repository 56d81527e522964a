use Rattle.std.proofs.Common.{◌≡◌, Bool, sym, ap, ap₂, ◌∙◌, arith}
use Rattle.std.specs.Prelude.{option_and_then}
use Rattle.h5_model.specs.Edits.Refusal.{is_chunked}
use Rattle.h5_model.specs.Format.Extent.{Extent, extent_of}
use Rattle.h5_model.specs.Format.Layout.{layout_of}
use Rattle.h5_model.specs.Format.Described.{storage_of, Described}
use Rattle.h5_layout.specs.StoredExtent.{stored_extent}
use Rattle.h5_layout.proofs.LayoutClass.{class_chunked, class_room}
use Rattle.h5_layout.proofs.ToldLaws.{told}
use Rattle.h5_layout.proofs.stored_extent.known_extent.Goals as goal

pub bounds-one_body-1 : goal.bounds-one_body-1
bounds-one_body-1 c =
    let a = c.requires.0 in
    let is = sym (ap (option_and_then (layout_of a.sizes a.fixed.size)) c.one_body-2.ensures) ∙ c.requires.1.laid_out in
    omega (arith, class_room a.sizes a.fixed.size c.one_body-2.result.now a.layout is)

pub returns : goal.returns
returns c =
    let a = c.requires.0 in
    let x : Extent = record { sizes = a.sizes; maxima = a.maxima } in
    let says = sym (ap (option_and_then extent_of) c.one_body.ensures) ∙ c.requires.1.space in
    let read = rw says at c.read_dataspace.ensures in
    let extent : c.unwrap.result ≡ x = cc (read, c.unwrap.ensures) in
    let is = sym (ap (option_and_then (layout_of a.sizes a.fixed.size)) c.one_body-2.ensures) ∙ c.requires.1.laid_out in
    let chunked = class_chunked a.sizes a.fixed.size c.one_body-2.result.now a.layout is in
    ap₂ (λ (e : Extent) (b : Bool). stored_extent e.sizes e.maxima b) extent chunked
    ∙ sym (ap (λ (d : Described). stored_extent d.sizes d.maxima (is_chunked (storage_of d.sizes d.layout)))
    (told c.args.header.now.messages a c.requires.1))
