use Rattle.std.proofs.Common.{inl, refl, sym}
use Rattle.h5_model.specs.declared.edits.Edit.TheVariants.{HardLink}
use Rattle.h5_edit.proofs.RuleLaws.Exits.{passed_on}
use Rattle.h5_edit.proofs.LinkFacts.{array_target, free_asked, group_asked, hard_edit, link_made, link_refused, sound_asked, table_there}
use Rattle.h5_edit.proofs.Refusals.{by_rule}
use Rattle.h5_edit.proofs.links.hard_link.Goals as goal

pub returns-in_err-number : goal.returns-in_err-number
returns-in_err-number c =
    passed_on _ _ c.from_residual.result _ c.from_residual.ensures.1
    (by_rule c.args.opened.now (HardLink c.args.target.now c.args.path.now) _ c.in_err-number.ensures, refl)

pub add_link-requires-clause-group : goal.add_link-requires-clause-group
add_link-requires-clause-group c = group_asked c.args.opened.now c.next-next.ensures.sound c.in_ok-number.ensures.1 (inl refl)

pub add_link-requires-clause-free : goal.add_link-requires-clause-free
add_link-requires-clause-free c = free_asked c.args.opened.now c.next-next.ensures.sound c.in_ok-number.ensures.1 (inl refl)

pub add_link-requires-clause-target : goal.add_link-requires-clause-target
add_link-requires-clause-target c = array_target c.args.opened.now c.next-next.ensures.sound c.in_ok-number.ensures

pub add_link-requires-clause-good : goal.add_link-requires-clause-good
add_link-requires-clause-good c =
    sound_asked c.args.opened.now c.next-next.ensures.sound c.in_ok-number.ensures.1 (inl refl) _ (hard_edit c.args.opened.now c.in_ok-number.ensures (table_there c.args.opened.now c.next-next.ensures.sound c.in_ok-number.ensures.1 (inl refl)).0).tree

pub returns-in-Ok : goal.returns-in-Ok
returns-in-Ok c =
    let f = c.args.opened.now in
    let placed = c.in_ok-number.ensures in
    let table = table_there f c.next-next.ensures.sound placed.1 (inl refl) in
    let says = c.add_link.ensures in
    link_made f c.args.path.now _ _ (HardLink c.args.target.now c.args.path.now) table.0 _ _ _ _ (hard_edit f placed table.0) table.1 placed.1.allowed
    c.add_link.result (says.deep table.0 table.1) (says.full table.0 table.1) _ c.in-Ok.is c.add_link.new.self _ (sym placed.0) refl
    ((rw c.in-Ok.is at says.changed) table.0 table.1)

pub returns-in-Err : goal.returns-in-Err
returns-in-Err c =
    let f = c.args.opened.now in
    let placed = c.in_ok-number.ensures in
    let table = table_there f c.next-next.ensures.sound placed.1 (inl refl) in
    let says = c.add_link.ensures in (
      rw c.insertion_fault.ensures
          (link_refused f c.args.path.now _ _ (HardLink c.args.target.now c.args.path.now) table.0 _ _ _ _ (hard_edit f placed table.0) table.1 placed.1.allowed
          c.add_link.result (says.deep table.0 table.1) (says.full table.0 table.1) c.in-Err.fault c.in-Err.is),
      rw c.in-Err.is at says.refused,
    )
