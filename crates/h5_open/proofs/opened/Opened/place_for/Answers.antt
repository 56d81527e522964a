use Rattle.std.proofs.Common.{◌≡◌, ◌+◌, ◌<◌, ◌≤◌, length, ap, ◌∙◌, subst, arith}
use Rattle.h5_model.specs.Format.Limits.{most_bytes}
use Rattle.h5_open.specs.ObjectAdded.{place_in}
use Rattle.h5_open.specs.Opened.Sound.{IsSound}
use Rattle.h5_open.specs.Opened.State.{FileState}
use Rattle.h5_open.proofs.NextPlace.{past_end}
use Rattle.h5_open.proofs.OpenedLaws.Sounds.{sound}
use Rattle.h5_open.proofs.opened.Opened.place_for.Goals as goal
use Rattle.h5_open.proofs.opened.Opened.place_for.Goals.{Joined-then-at-gt-MAXIMUM_IMAGE, then-at-gt-MAXIMUM_IMAGE-via-then-at-gt-MAXIMUM_IMAGE, then-at-gt-MAXIMUM_IMAGE-via-else-at-gt-MAXIMUM_IMAGE+then-len-at}

past : (c : Joined-then-at-gt-MAXIMUM_IMAGE) → most_bytes < c.place_for-at.result + c.args.len
past c = elim c.then-at-gt-MAXIMUM_IMAGE.branch [
  | then-at-gt-MAXIMUM_IMAGE-via-then-at-gt-MAXIMUM_IMAGE w ↦ omega (arith, w.if-at-gt-MAXIMUM_IMAGE.true)
  | then-at-gt-MAXIMUM_IMAGE-via-else-at-gt-MAXIMUM_IMAGE+then-len-at w ↦ omega (arith, w.if-at-gt-MAXIMUM_IMAGE.false, w.if-len-at.true)
]

pub returns-then-at-gt-MAXIMUM_IMAGE-clause-place : goal.returns-then-at-gt-MAXIMUM_IMAGE-clause-place
returns-then-at-gt-MAXIMUM_IMAGE-clause-place c =
    let image = c.self.inside.image in
    let opened = c.self.invariant in
    let low = past c in
    let long : length image.bytes ≡ length c.args.self.now.image = ap (λ (f : FileState). length f.image) c.self.view_is in
    let small : length image.bytes ≤ most_bytes = omega (arith, opened.reads.1.holds.whole, opened.reads.1.holds.superblock.small) in
    let end = past_end image c.args.len c.requires.some (λ p. omega (arith, opened.apart p)) most_bytes small (omega (arith, low, c.place_for-at.ensures)) in
    omega (arith, end, long)

pub returns-then-at-gt-MAXIMUM_IMAGE-clause-sound : goal.returns-then-at-gt-MAXIMUM_IMAGE-clause-sound
returns-then-at-gt-MAXIMUM_IMAGE-clause-sound c = subst IsSound c.self.view_is (sound c.self.inside.image c.self.inside.index.objects.items c.self.inside.index.numbers c.self.invariant)

pub returns-clause-place : goal.returns-clause-place
returns-clause-place c = (
  c.place_for-at.ensures ∙ ap (λ (f : FileState). place_in f c.args.len) c.self.view_is,
  omega (arith, c.if-at-gt-MAXIMUM_IMAGE.false, c.if-len-at.false),
)

pub returns-clause-sound : goal.returns-clause-sound
returns-clause-sound c = subst IsSound c.self.view_is (sound c.self.inside.image c.self.inside.index.objects.items c.self.inside.index.numbers c.self.invariant)
