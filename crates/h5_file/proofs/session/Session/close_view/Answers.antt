use Rattle.std.proofs.Common.{subst, List}
use Rattle.h5_file.specs.OpenViews.{IsViewAt, session_state}
use Rattle.h5_file.specs.Session.{IsViewClosed, SessionState}
use Rattle.h5_file.specs.declared.views.KeptView.{KeptView}
use Rattle.h5_file.proofs.ViewLaws.{closed_left, kept_left}
use Rattle.h5_file.proofs.session.Session.close_view.Goals as goal

pub invariant_of-self : goal.invariant_of-self
invariant_of-self c =
    let s = c.self.inside in
    kept_left s.file s.views s.next c.in-Some.at c.remove-closed.new.self c.self.invariant c.remove-closed.ensures

pub returns : goal.returns
returns c =
    let s = c.self.inside in
    let there = subst (λ (vs : List KeptView). IsViewAt vs c.args.number.0 c.in-Some.at) c.as_slice.ensures c.in-Some.ensures in
    subst (λ (v : SessionState). IsViewClosed v c.args.number.0 (session_state s.file c.remove-closed.new.self s.next)) c.self.view_is
    (closed_left s.file s.views s.next c.args.number.0 c.in-Some.at c.remove-closed.new.self c.remove-closed.result c.self.invariant there c.remove-closed.ensures)
