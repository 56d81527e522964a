use Rattle.std.proofs.Common.{subst}
use Rattle.h5_open.specs.Opened.Sound.{IsSound}
use Rattle.h5_open.proofs.OpenedLaws.Sounds.{sound}
use Rattle.h5_open.proofs.opened.Opened.into_image.Goals as goal

pub returns-clause-sound : goal.returns-clause-sound
returns-clause-sound c =
    let kept = c.self.inside.index in
    subst IsSound c.self.view_is (sound c.self.inside.image kept.objects.items kept.numbers c.self.invariant)
