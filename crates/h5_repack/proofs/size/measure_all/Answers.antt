use Rattle.std.proofs.Common.{◌≡◌, ◌+◌, ◌≤◌, ◌++◌, ◌∷◌, [], List, Option, ap, ◌∙◌, refl, sym, subst, length, take, add-one, Some}
use Rattle.std.proofs.lemmas.Slice.Zip.{AllZip-long}
use Rattle.std.proofs.lemmas.List.{take_all}
use Rattle.std.proofs.lemmas.Option.{slice_get_read}
use Rattle.std.proofs.lemmas.Result.{err_from_is_err_and}
use Rattle.std.specs.Prelude.{slice_get}
use Rattle.std.specs.List.{AllZip}
use Rattle.h5_repack.specs.Layout.{IsHeldObject, IsSlotSize, StoredObject}
use Rattle.h5_repack.specs.Objects.Objects.{SlotsHold}
use Rattle.h5_repack.proofs.Sizes.{unmeasured_at}
use Rattle.h5_repack.proofs.ObjectLaws.Zips.{zip_right, zip_more}
use Rattle.h5_repack.proofs.size.measure_all.Goals as goal

pub measure_slot-requires-clause-held : goal.measure_slot-requires-clause-held
measure_slot-requires-clause-held c =
    let objects = c.args.objects.now in
    let i = c.loop-object.object-index in
    let x = c.object-item.result in
    let found : slice_get objects i ≡ Some x = slice_get_read objects (length objects) i x refl c.loop-object-test.true c.object-item.is in
    let o = zip_right (SlotsHold IsHeldObject) objects c.requires.held.0 i x c.requires.held.1 found in
    (o.0, o.2)

pub returns-in_err-size-clause-refused : goal.returns-in_err-size-clause-refused
returns-in_err-size-clause-refused c =
    let objects = c.args.objects.now in
    let i = c.loop-object.object-index in
    let x = c.object-item.result in
    let found : slice_get objects i ≡ Some x = slice_get_read objects (length objects) i x refl c.loop-object-test.true c.object-item.is in
    let p = err_from_is_err_and c.from_residual.result c.from_residual.ensures.1 in
    rw (p.1, p.2) (λ listed held.
    let o = zip_right (SlotsHold IsHeldObject) objects listed i x held found in
    let un = c.in_err-size.ensures.refused o.0 o.2 in
    unmeasured_at c.args.k.now listed i un.0 c.in_err-size.field-0.0 (o.1 ∙ ap (λ (place : Option StoredObject). Some place) un.1) un.2)

pub loop-object-preserved : goal.loop-object-preserved
loop-object-preserved c listed held =
    let objects = c.args.objects.now in
    let i = c.loop-object.object-index in
    let x = c.object-item.result in
    let found : slice_get objects i ≡ Some x = slice_get_read objects (length objects) i x refl c.loop-object-test.true c.object-item.is in
    let o = zip_right (SlotsHold IsHeldObject) objects listed i x held found in
    let sized = IsSlotSize c.args.k.now in
    let more : AllZip sized (take (i + 1) listed) (c.loop-object.sizes.items ++ c.in_ok-size.size ∷ [])
    = rw add-one (zip_more sized listed c.loop-object.sizes.items i o.0 c.in_ok-size.size o.1 (c.loop-object.invariant listed held) (c.in_ok-size.ensures.size o.0 o.2)) in
    subst (AllZip sized (take (i + 1) listed)) (sym c.in-Ok.ensures.items) more

pub returns-clause-sizes : goal.returns-clause-sizes
returns-clause-sizes c listed held =
    let i = c.loop-object.object-index in
    let all : take i listed ≡ listed = take_all i listed (subst (λ n. n ≤ i) (sym (AllZip-long (SlotsHold IsHeldObject) c.args.objects.now listed held)) c.loop-object-test.false) in
    subst (λ (os : List (Option StoredObject)). AllZip (IsSlotSize c.args.k.now) os c.loop-object.sizes.items) all (c.loop-object.invariant listed held)
