use Rattle.std.proofs.Common.{subst}
use Rattle.h5_model.specs.declared.edits.Edit.TheVariants.{Write}
use Rattle.h5_file.specs.Following.{HaveFollowed}
use Rattle.h5_file.specs.OpenViews.{session_state}
use Rattle.h5_file.specs.Session.{IsSessionEdited, SessionState}
use Rattle.h5_file.proofs.session.Session.write_with_views.Goals as goal
use Rattle.h5_file.proofs.session.Session.write_with_views.Goals.{After-follow}

pub follow-requires : goal.follow-requires
follow-requires c = (c.self.inside.file, Write c.args.path.now c.args.hyper.now c.args.values.now, c.self.inside.next, record { edited = c.in_ok-edited.ensures.edited; kept = c.self.invariant; touch = c.written-touched.ensures c.args.path.now c.args.values.now })

-- the views followed
followed : (c : After-follow) → HaveFollowed c.self.inside.file c.write_from.new.self c.self.inside.views c.follow.new.views c.self.inside.next (Write c.args.path.now c.args.hyper.now c.args.values.now) c.follow.result
followed c = c.follow.ensures c.self.inside.file (Write c.args.path.now c.args.hyper.now c.args.values.now) c.self.inside.next (record { edited = c.in_ok-edited.ensures.edited; kept = c.self.invariant; touch = c.written-touched.ensures c.args.path.now c.args.values.now })

pub invariant_of-self-2 : goal.invariant_of-self-2
invariant_of-self-2 c = (followed (goal.at.invariant_of-self-2 c).After-follow).kept

pub returns : goal.returns
returns c =
    let s = c.self.inside in
    record {
      edited = subst (λ (v : SessionState). IsSessionEdited v (Write c.args.path.now c.args.hyper.now c.args.values.now) (session_state c.write_from.new.self c.follow.new.views s.next) c.follow.result) c.self.view_is
          (followed (goal.at.returns c).After-follow).edited;
    }
