use Rattle.std.proofs.Common.{◌≡◌, arith, refl, length, Some}
use Rattle.std.proofs.lemmas.Option.{slice_get_read}
use Rattle.std.specs.Prelude.{slice_get}
use Rattle.h5_repack.specs.Layout.{header_by}
use Rattle.h5_repack.specs.declared.size.Extent.TheVariants as extent
use Rattle.h5_repack.proofs.Leads.{heap_low, leads_found}
use Rattle.h5_repack.proofs.group.object_place.Goals as goal

pub overflow_add-result : goal.overflow_add-result
overflow_add-result c =
    let h = c.in-Some.ensures.lookup in
    let sizes = c.args.layout.now.sizes.now in
    let found : slice_get sizes c.args.number ≡ Some c.in-Some.size.now = slice_get_read sizes (length sizes) c.args.number c.in-Some.size.now refl h.3.0 h.1 in
    omega (arith, c.requires.each c.args.number c.in-Some.size.now found)

pub overflow_add-result-in-Links : goal.overflow_add-result-in-Links
overflow_add-result-in-Links c =
    let h = c.in-Some.ensures.lookup in
    let sizes = c.args.layout.now.sizes.now in
    let found : slice_get sizes c.args.number ≡ Some c.in-Some.size.now = slice_get_read sizes (length sizes) c.args.number c.in-Some.size.now refl h.3.0 h.1 in
    omega (arith, c.requires.each c.args.number c.in-Some.size.now found)

pub overflow_add-result-in-Links-2 : goal.overflow_add-result-in-Links-2
overflow_add-result-in-Links-2 c =
    let h = c.in-Some.ensures.lookup in
    let sizes = c.args.layout.now.sizes.now in
    let s = c.in-Some.size.now in
    let found : slice_get sizes c.args.number ≡ Some s = slice_get_read sizes (length sizes) c.args.number s refl h.3.0 h.1 in
    let low = heap_low (header_by c.args.layout.now c.args.number) s c.in-Links.places c.in-Links.is (c.requires.low c.args.number s found) (c.requires.each c.args.number s found) in
    omega (arith, low)

pub returns-in-Links : goal.returns-in-Links
returns-in-Links c =
    let h = c.in-Some.ensures.lookup in
    let sizes = c.args.layout.now.sizes.now in
    rw c.header_place-header.ensures
    (leads_found c.args.layout.now c.args.number c.in-Some.size.now (extent.Links c.in-Links.places)
    (slice_get_read sizes (length sizes) c.args.number c.in-Some.size.now refl h.3.0 h.1) c.in-Links.is)

pub returns-in-Data : goal.returns-in-Data
returns-in-Data c =
    let h = c.in-Some.ensures.lookup in
    let sizes = c.args.layout.now.sizes.now in
    rw c.header_place-header.ensures
    (leads_found c.args.layout.now c.args.number c.in-Some.size.now (extent.Data c.in-Data.field-0)
    (slice_get_read sizes (length sizes) c.args.number c.in-Some.size.now refl h.3.0 h.1) c.in-Data.is)
