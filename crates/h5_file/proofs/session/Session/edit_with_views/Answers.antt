use Rattle.std.proofs.Common.{subst}
use Rattle.h5_file.specs.Following.{HaveFollowed}
use Rattle.h5_file.specs.OpenViews.{session_state}
use Rattle.h5_file.specs.Session.{IsSessionEdited, SessionState}
use Rattle.h5_file.proofs.session.Session.edit_with_views.Goals as goal
use Rattle.h5_file.proofs.session.Session.edit_with_views.Goals.{After-follow}

pub follow-requires : goal.follow-requires
follow-requires c = (c.self.inside.file, c.args.edit.now, c.self.inside.next, record { edited = c.in_ok-edited.ensures.edited; kept = c.self.invariant; touch = c.of-touched.ensures })

-- the views followed
followed : (c : After-follow) → HaveFollowed c.self.inside.file c.edit.new.self c.self.inside.views c.follow.new.views c.self.inside.next (c.args.edit.now) c.follow.result
followed c = c.follow.ensures c.self.inside.file (c.args.edit.now) c.self.inside.next (record { edited = c.in_ok-edited.ensures.edited; kept = c.self.invariant; touch = c.of-touched.ensures })

pub invariant_of-self-2 : goal.invariant_of-self-2
invariant_of-self-2 c = (followed (goal.at.invariant_of-self-2 c).After-follow).kept

pub returns : goal.returns
returns c =
    let s = c.self.inside in
    record {
      edited = subst (λ (v : SessionState). IsSessionEdited v (c.args.edit.now) (session_state c.edit.new.self c.follow.new.views s.next) c.follow.result) c.self.view_is
          (followed (goal.at.returns c).After-follow).edited;
    }
