use Rattle.std.proofs.Common.{◌≡◌, Some, subst}
use Rattle.std.specs.Prelude.{MatchOption}
use Rattle.std.specs.FinMap.{get}
use Rattle.h5_open.specs.Opened.Sound.{IsSound, IsHeaderIn}
use Rattle.h5_open.specs.Opened.State.{FileState}
use Rattle.h5_open.proofs.OpenedLaws.Sounds.{sound, number_found}
use Rattle.h5_open.proofs.opened.Opened.number_at.Goals as goal

pub returns-clause-found : goal.returns-clause-found
returns-clause-found c =
    let kept = c.self.inside.index in
    let header = c.args.header in
    subst (λ (f : FileState). MatchOption c.get.result (IsHeaderIn f.table header → ⊥) (λ n. get f.table n ≡ Some header)) c.self.view_is
    (rw c.get.ensures (number_found c.self.inside.image kept.objects.items kept.numbers c.self.invariant header))

pub returns-clause-sound : goal.returns-clause-sound
returns-clause-sound c = subst IsSound c.self.view_is (sound c.self.inside.image c.self.inside.index.objects.items c.self.inside.index.numbers c.self.invariant)
