use Rattle.std.proofs.Common.{◌≡◌, sym, ◌∙◌, subst}
use Rattle.std.proofs.lemmas.Option.{same_Some}
use Rattle.h5_model.specs.Tree.Objects.{Dataset}
use Rattle.h5_model.specs.Tree.Sound.{IsDataset}
use Rattle.h5_file.specs.OpenViews.{AreViewsFollowed}
use Rattle.h5_file.specs.Touched.{HasBoxes}
use Rattle.h5_file.proofs.ArrayFacts.{IsArraySound, array_sound}
use Rattle.h5_file.proofs.EditedViews.{views_ready}
use Rattle.h5_file.proofs.FollowedViews.{followed_same}
use Rattle.h5_file.proofs.views.follow_all.Goals as goal
use Rattle.h5_file.proofs.views.follow_all.Goals.{In-Some}

sound : (c : In-Some) → IsArraySound c.in-Some.array
sound c =
    array_sound c.args.file.now c.image-image.ensures.low c.image-image.ensures.sound c.args.number.0 c.in-Some.array c.in-Some.ensures

pub follow_each-requires-clause-array : goal.follow_each-requires-clause-array
follow_each-requires-clause-array c =
    let s = sound (goal.at.follow_each-requires-clause-array c).In-Some in
    let touch = c.requires.touch c.in-Some.array c.in-Some.ensures in
    record { sound = s.dataset; few = touch.1 s.few; touch = touch.0; grid_is = c.box_sizes-grid.ensures }

pub follow_each-requires-clause-fit : goal.follow_each-requires-clause-fit
follow_each-requires-clause-fit c = views_ready c.args.file.now.tree c.args.file.now.next c.args.number.0 c.in-Some.array c.in-Some.ensures c.args.views.now c.requires.fit

pub returns-clause-followed : goal.returns-clause-followed
returns-clause-followed c = λ d there.
    let same : c.in-Some.array ≡ d = same_Some _ _ (sym c.in-Some.ensures ∙ there) in
    subst (λ (d : Dataset). AreViewsFollowed c.args.number.0 d c.args.touched.now c.args.views.now c.follow_each.result c.follow_each.new.views) same c.follow_each.ensures

pub returns-clause-same : goal.returns-clause-same
returns-clause-same c = followed_same c.args.number.0 c.in-Some.array c.args.touched.now c.args.views.now c.follow_each.result c.follow_each.new.views c.follow_each.ensures

pub returns-clause-sound : goal.returns-clause-sound
returns-clause-sound c = λ d there.
    let s = sound (goal.at.returns-clause-sound c).In-Some in
    let same : c.in-Some.array ≡ d = same_Some _ _ (sym c.in-Some.ensures ∙ there) in
    subst (λ (d : Dataset). IsDataset d × HasBoxes d) same (s.dataset, s.boxes)
