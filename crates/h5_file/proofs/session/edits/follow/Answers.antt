use Rattle.std.proofs.Common.{Option, Some, ℕ, subst}
use Rattle.h5_model.specs.declared.edits.Edit.{Edit}
use Rattle.h5_edit.specs.Opened.State.{FileState}
use Rattle.h5_file.specs.Following.{IsToFollow}
use Rattle.h5_file.specs.declared.touched.Touched.{Touched}
use Rattle.h5_file.proofs.FollowedEdits.{array, followed_all, there, touch_now, unfollowed}
use Rattle.h5_file.proofs.ViewLaws.{all_fit_edited}
use Rattle.h5_file.proofs.session.edits.follow.Goals as goal
use Rattle.h5_file.proofs.session.edits.follow.Goals.{After-follow-refreshed}

pub follow-refreshed-requires-clause-rise : goal.follow-refreshed-requires-clause-rise
follow-refreshed-requires-clause-rise c = (c.requires.2, c.requires.3.kept.numbered)

pub follow-refreshed-requires-clause-fit : goal.follow-refreshed-requires-clause-fit
follow-refreshed-requires-clause-fit c =
    let to = c.requires.3 in
    all_fit_edited c.requires.0 c.args.file.now c.requires.1 to.edited.accepted.accepted to.edited.state c.args.views.now to.kept.fit

-- the edit touched these cells
touching : (c : After-follow-refreshed) (before : FileState) (edit : Edit) (next : ℕ) → IsToFollow before c.args.file.now c.args.views.now next edit c.args.touched c.args.edited
    → IsToFollow before c.args.file.now c.args.views.now next edit (Some c.in-Some.touched) c.args.edited
touching c before edit next to = subst (λ (t : Option Touched). IsToFollow before c.args.file.now c.args.views.now next edit t c.args.edited) c.in-Some.is to

pub follow-refreshed-requires-clause-touch : goal.follow-refreshed-requires-clause-touch
follow-refreshed-requires-clause-touch c =
    let to = subst (λ (t : Option Touched). IsToFollow c.requires.0 c.args.file.now c.args.views.now c.requires.2 c.requires.1 t c.args.edited) c.in-Some.is c.requires.3 in
    touch_now c.requires.0 c.args.file.now c.args.views.now c.requires.2 c.requires.1 c.args.edited c.in-Some.touched to c.in-Some-object.number c.in-Some-object.is

pub returns-in_default : goal.returns-in_default
returns-in_default c before edit next to =
    unfollowed before c.args.file.now c.args.views.now next edit c.args.edited
    (subst (λ (t : Option Touched). IsToFollow before c.args.file.now c.args.views.now next edit t c.args.edited) c.in_default.is to)

pub returns : goal.returns
returns c before edit next to0 =
    let b = (goal.at.returns c).After-follow-refreshed in
    let after = c.args.file.now in
    let views = c.args.views.now in
    let t = c.in-Some.touched in
    let n = c.in-Some-object.number in
    let to = touching b before edit next to0 in
    let d = array before after views next edit c.args.edited t to n c.in-Some-object.is in
    let at = there before after views next edit c.args.edited t to n c.in-Some-object.is in
    followed_all before after views next edit c.args.edited t to n c.in-Some-object.is c.follow-refreshed.result c.follow-refreshed.new.self
    (c.follow-refreshed.ensures.followed d at) (c.follow-refreshed.ensures.sound d at)
