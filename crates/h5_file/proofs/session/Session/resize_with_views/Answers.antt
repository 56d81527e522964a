use Rattle.std.proofs.Common.{subst}
use Rattle.h5_model.specs.declared.edits.Edit.TheVariants.{Resize}
use Rattle.h5_file.specs.Following.{HaveFollowed}
use Rattle.h5_file.specs.OpenViews.{session_state}
use Rattle.h5_file.specs.Session.{IsSessionEdited, SessionState}
use Rattle.h5_file.proofs.session.Session.resize_with_views.Goals as goal
use Rattle.h5_file.proofs.session.Session.resize_with_views.Goals.{After-follow}

pub follow-requires : goal.follow-requires
follow-requires c = (c.self.inside.file, Resize c.args.path.now c.args.dims.now, c.self.inside.next, record { edited = c.in_ok-edited.ensures.edited; kept = c.self.invariant; touch = c.lost-touched.ensures })

-- the views followed
followed : (c : After-follow) → HaveFollowed c.self.inside.file c.resize.new.self c.self.inside.views c.follow.new.views c.self.inside.next (Resize c.args.path.now c.args.dims.now) c.follow.result
followed c = c.follow.ensures c.self.inside.file (Resize c.args.path.now c.args.dims.now) c.self.inside.next (record { edited = c.in_ok-edited.ensures.edited; kept = c.self.invariant; touch = c.lost-touched.ensures })

pub invariant_of-self-2 : goal.invariant_of-self-2
invariant_of-self-2 c = (followed (goal.at.invariant_of-self-2 c).After-follow).kept

pub returns : goal.returns
returns c =
    let s = c.self.inside in
    record {
      edited = subst (λ (v : SessionState). IsSessionEdited v (Resize c.args.path.now c.args.dims.now) (session_state c.resize.new.self c.follow.new.views s.next) c.follow.result) c.self.view_is
          (followed (goal.at.returns c).After-follow).edited;
    }
