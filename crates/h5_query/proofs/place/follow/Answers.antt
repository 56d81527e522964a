use Rattle.std.proofs.Common.{ℕ, List, Option, Bor, ap, ◌∙◌}
use Rattle.h5_model.specs.Tree.Paths.{Missing, NoParent, NoGroup, missing_before}
use Rattle.h5_query.specs.Names.{parts, parts_left}
use Rattle.h5_query.specs.Place.{link_at}
use Rattle.h5_query.proofs.Looks.{ends_at, ends_there, in_parent, leads_on, missing_inside}
use Rattle.h5_query.proofs.place.follow.Goals as goal

pub returns-in-NoGroup-default : goal.returns-in-NoGroup-default
returns-in-NoGroup-default c =
    ends_at c.args.opened.now.tree (link_at c.loop-parent.place) c.loop-parent.names.now c.cut.result.0.now (parts_left c.cut.result.1) (parts c.args.text.now)
    c.loop-parent.invariant.leads c.cut.ensures NoGroup (c.in-NoGroup-default.ensures (parts_left c.cut.result.1))

pub returns-in-Missing-Some : goal.returns-in-Missing-Some
returns-in-Missing-Some c =
    ends_at c.args.opened.now.tree (link_at c.loop-parent.place) c.loop-parent.names.now c.cut.result.0.now (parts_left c.cut.result.1) (parts c.args.text.now)
    c.loop-parent.invariant.leads c.cut.ensures NoParent
    (c.in-Missing-Some.ensures.1 (parts_left c.cut.result.1) ∙ ap (λ (others : Option (Bor (List ℕ))). missing_before (parts_left others)) c.in-Missing-Some.is-1 ∙ missing_inside c.in-Missing-Some.field-0-1.now)

pub returns-in-Missing-None : goal.returns-in-Missing-None
returns-in-Missing-None c =
    let tree = c.args.opened.now.tree in
    let last = ap parts_left c.in-Missing-None.is-1 in (
      in_parent tree (link_at c.loop-parent.place) c.loop-parent.names.now c.cut.result.0.now (parts_left c.cut.result.1) (parts c.args.text.now)
          c.loop-parent.invariant.leads c.cut.ensures c.in-Missing-None.parent c.in-Missing-None.ensures.0 last,
      ends_at tree (link_at c.loop-parent.place) c.loop-parent.names.now c.cut.result.0.now (parts_left c.cut.result.1) (parts c.args.text.now)
          c.loop-parent.invariant.leads c.cut.ensures Missing (c.in-Missing-None.ensures.1 (parts_left c.cut.result.1) ∙ ap missing_before last),
    )

pub returns-in-To-None : goal.returns-in-To-None
returns-in-To-None c =
    let tree = c.args.opened.now.tree in
    let last = ap parts_left c.in-To-None.is-1 in
    let step = c.in-To-None.ensures in (
      in_parent tree (link_at c.loop-parent.place) c.loop-parent.names.now c.cut.result.0.now (parts_left c.cut.result.1) (parts c.args.text.now)
          c.loop-parent.invariant.leads c.cut.ensures c.in-To-None.parent step.0 last,
      ends_there tree (link_at c.loop-parent.place) c.loop-parent.names.now c.cut.result.0.now (parts_left c.cut.result.1) (parts c.args.text.now)
          c.loop-parent.invariant.leads c.cut.ensures c.in-To-None.parent step.0 (link_at c.in-To-None.place) step.1 last,
      step.2,
    )

pub loop-parent-preserved : goal.loop-parent-preserved
loop-parent-preserved c =
    let step = c.in-To-Some.ensures in
    record {
      kept = step.2;
      leads = leads_on c.args.opened.now.tree (link_at c.loop-parent.place) c.loop-parent.names.now c.cut.result.0.now (parts_left c.cut.result.1)
          (parts c.args.text.now) c.loop-parent.invariant.leads c.cut.ensures c.in-To-Some.parent-0 step.0 (link_at c.in-To-Some.next) step.1 c.in-To-Some.rest.now (ap parts_left c.in-To-Some.is-1);
    }
