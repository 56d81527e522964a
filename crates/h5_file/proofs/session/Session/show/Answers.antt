use Rattle.std.proofs.Common.{◌≡◌, ◌∙◌, ap, get_or, subst, List, Result, Ok, Err}
use Rattle.std.specs.Prelude.{IfOk, MatchResult, Option}
use Rattle.std.specs.FinMap.{get}
use Rattle.h5_model.specs.Scripts.Answers.{view_is_lent}
use Rattle.h5_model.specs.Views.Shown.{Shown, View, shows}
use Rattle.h5_model.specs.declared.view_fault.ViewFault.{ViewFault}
use Rattle.h5_file.specs.OpenViews.{IsViewAt}
use Rattle.h5_file.specs.Session.{SessionState}
use Rattle.h5_file.specs.declared.views.KeptView.{KeptView}
use Rattle.h5_file.proofs.ViewLaws.{lent_as, shown_as}
use Rattle.h5_file.proofs.session.Session.show.Goals as goal

pub returns-clause-shown : goal.returns-clause-shown
returns-clause-shown c =
    let s = c.self.inside in
    let there = subst (λ (vs : List KeptView). IsViewAt vs c.args.number.0 c.in-Some.at) c.as_slice-views.ensures c.in-Some.ensures in
    let found = c.index-views-at.is ∙ ap (λ (vs : List KeptView). get_or vs c.in-Some.at c.index-views-at.result) c.as_slice-views.ensures in
    let is = shown_as s.file s.views s.next c.args.number.0 c.in-Some.at c.index-views-at.result c.self.invariant there found in
    subst (λ (v : SessionState). MatchResult c.show.result
    (λ r. shows v.file.tree v.views c.args.number.0 ≡ Ok (record { fixed = r.fixed; bytes = r.bytes.now })) (λ e. shows v.file.tree v.views c.args.number.0 ≡ Err e)) c.self.view_is
    (subst (λ (showing : Result Shown ViewFault). MatchResult c.show.result
    (λ r. showing ≡ Ok (record { fixed = r.fixed; bytes = r.bytes.now })) (λ e. showing ≡ Err e)) is c.show.ensures.shown)

pub returns-clause-lent : goal.returns-clause-lent
returns-clause-lent c =
    let s = c.self.inside in
    let there = subst (λ (vs : List KeptView). IsViewAt vs c.args.number.0 c.in-Some.at) c.as_slice-views.ensures c.in-Some.ensures in
    let found = c.index-views-at.is ∙ ap (λ (vs : List KeptView). get_or vs c.in-Some.at c.index-views-at.result) c.as_slice-views.ensures in
    let is = lent_as s.file s.views s.next c.args.number.0 c.in-Some.at c.index-views-at.result c.self.invariant there found in
    subst (λ (v : SessionState). IfOk c.show.result (λ r. r.lent ≡ view_is_lent v.file.tree (get v.views c.args.number.0))) c.self.view_is
    (subst (λ (o : Option View). IfOk c.show.result (λ r. r.lent ≡ view_is_lent s.file.tree o)) is c.show.ensures.lent)
