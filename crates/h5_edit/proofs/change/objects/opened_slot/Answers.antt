use Rattle.std.proofs.Common.{Option, [], None, sym, subst}
use Rattle.h5_model.specs.Tree.Objects.{Object}
use Rattle.h5_query.proofs.OpenedLaws.Indexed.{none_there}
use Rattle.h5_query.specs.Opened.Objects.{object_in}
use Rattle.h5_repack.specs.Objects.Objects.{IsNewObject, SlotsHold}
use Rattle.h5_edit.proofs.ChangedLaws.StoredSlots.{none_at}
use Rattle.h5_edit.proofs.change.objects.opened_slot.Goals as goal

pub opened_object-requires-clause-plain : goal.opened_object-requires-clause-plain
opened_object-requires-clause-plain c =
    c.requires (object_in c.args.opened.now.image c.args.opened.now.table c.in-Some.object.now) c.in-Some.ensures.found.there

pub opened_object-requires-clause-object : goal.opened_object-requires-clause-object
opened_object-requires-clause-object c = (c.args.number, c.in-Some.ensures.found)

pub returns-in_ok-opened_object-in-Some-clause-stored : goal.returns-in_ok-opened_object-in-Some-clause-stored
returns-in_ok-opened_object-in-Some-clause-stored c =
    c.in_ok-opened_object-in-Some.ensures.stored c.args.number c.in-Some.ensures.found

pub returns-in-None-clause-object : goal.returns-in-None-clause-object
returns-in-None-clause-object c =
    let none = none_there c.args.opened.now c.in-None.ensures.sound c.args.number c.in-None.ensures.found in
    subst (λ (found : Option Object). SlotsHold IsNewObject None found) (sym none) tt

pub returns-in-None-clause-stored : goal.returns-in-None-clause-stored
returns-in-None-clause-stored c =
    let f = c.args.opened.now in
    none_at f c.args.number [] (none_there f c.in-None.ensures.sound c.args.number c.in-None.ensures.found)
