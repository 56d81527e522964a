use Rattle.std.proofs.Common.{◌+◌, refl, subst, ap, ◌∙◌, List, length, nat_le}
use Rattle.std.specs.Prelude.{◌||◌}
use Rattle.std.proofs.lemmas.Result.{err_from_is_err_and}
use Rattle.h5_model.specs.Format.Limits.{most_views, most_numbers}
use Rattle.h5_model.specs.declared.view_fault.ViewFault.TheVariants as fault
use Rattle.h5_file.specs.OpenViews.{session_state}
use Rattle.h5_file.specs.Session.{IsViewOpened, IsViewRefused, SessionState}
use Rattle.h5_file.specs.declared.views.KeptView.{KeptView}
use Rattle.h5_file.proofs.ViewLaws.{kept_more, opened_more, refused_by}
use Rattle.h5_file.proofs.session.Session.open_view.Goals as goal

pub returns-in_err-view : goal.returns-in_err-view
returns-in_err-view c =
    let s = c.self.inside in
    let many = c.has_many-is_full.ensures ∙ ap (λ (vs : List KeptView). nat_le most_views (length vs) || nat_le most_numbers s.next) c.as_slice.ensures in
    let e = c.in_err-view.field-0.0 in
    let refused = refused_by s.file s.views s.next c.args.path.now c.args.hyper.now c.has_many-is_full.result e c.self.invariant.numbered many
    c.in_err-view.ensures.refused in
    let p = err_from_is_err_and c.from_residual.result c.from_residual.ensures.1 in
    rw (p.1, p.2) (subst (λ (v : SessionState). IsViewRefused v c.args.path.now c.args.hyper.now e) c.self.view_is refused, refl)

pub returns-in_err-push : goal.returns-in_err-push
returns-in_err-push c =
    let s = c.self.inside in
    let many = c.has_many-is_full.ensures ∙ ap (λ (vs : List KeptView). nat_le most_views (length vs) || nat_le most_numbers s.next) c.as_slice.ensures in
    let opened = c.in_ok-view.ensures.opened in
    let refused = refused_by s.file s.views s.next c.args.path.now c.args.hyper.now c.has_many-is_full.result fault.NoMemory c.self.invariant.numbered many
    (opened.2.allowed, opened.0) in
    let exit = c.from_residual-in_err-push.ensures in
    let p = err_from_is_err_and c.from_residual-in_err-push.result exit.1 in
    rw (p.1, p.2) (
      subst (λ (v : SessionState). IsViewRefused v c.args.path.now c.args.hyper.now fault.NoMemory) c.self.view_is refused,
      ap (λ (vs : List KeptView). session_state s.file vs s.next) c.in_err-push.ensures.err ∙ c.self.view_is,
    )

pub invariant_of-self-2 : goal.invariant_of-self-2
invariant_of-self-2 c =
    let s = c.self.inside in
    let many = c.has_many-is_full.ensures ∙ ap (λ (vs : List KeptView). nat_le most_views (length vs) || nat_le most_numbers s.next) c.as_slice.ensures in
    let of = c.in_ok-view.ensures in
    kept_more s.file s.views s.next c.self.invariant c.in_ok-view.view c.has_many-is_full.result many of.opened.0 c.push.new.self
    c.in_ok-push.ensures.ok of.opened.1 of.fit of.shown

pub returns : goal.returns
returns c =
    let s = c.self.inside in
    let many = c.has_many-is_full.ensures ∙ ap (λ (vs : List KeptView). nat_le most_views (length vs) || nat_le most_numbers s.next) c.as_slice.ensures in
    let opened = c.in_ok-view.ensures.opened in
    subst (λ (v : SessionState). IsViewOpened v c.args.path.now c.args.hyper.now s.next (session_state s.file c.push.new.self (s.next + 1))) c.self.view_is
    (opened_more s.file s.views s.next c.self.invariant c.in_ok-view.view c.has_many-is_full.result many opened.0 c.push.new.self
    c.in_ok-push.ensures.ok opened.1 c.args.path.now c.args.hyper.now opened.2 c.in_ok-view.ensures.first)
