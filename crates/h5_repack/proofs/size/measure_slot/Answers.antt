use Rattle.std.proofs.Common.{Option, subst}
use Rattle.std.proofs.lemmas.Result.{IfErr-weaker}
use Rattle.h5_repack.specs.Layout.{IsHeldObject}
use Rattle.h5_repack.specs.Objects.Objects.{SlotsHold}
use Rattle.h5_repack.specs.declared.objects.object.NewObject.{NewObject}
use Rattle.h5_repack.proofs.ObjectLaws.Zips.{slot_to}
use Rattle.h5_repack.proofs.size.measure_slot.Goals as goal

pub measure-requires-clause-held : goal.measure-requires-clause-held
measure-requires-clause-held c =
    let place = c.requires.held.0 in
    let o = slot_to IsHeldObject c.in-Some.object place (subst (λ (slot : Option NewObject). SlotsHold IsHeldObject slot place) c.in-Some.is c.requires.held.1) in
    (o.0, o.2)

pub returns-in-Some-clause-refused : goal.returns-in-Some-clause-refused
returns-in-Some-clause-refused c =
    IfErr-weaker c.measure.result _ _ (λ fault refused place held.
    let o = slot_to IsHeldObject c.in-Some.object place (subst (λ (slot : Option NewObject). SlotsHold IsHeldObject slot place) c.in-Some.is held) in
    (o.0, o.1, refused o.0 o.2)) c.measure.ensures.refused
