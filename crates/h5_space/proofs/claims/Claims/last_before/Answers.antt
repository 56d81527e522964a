use Rattle.std.proofs.Common.{◌≤◌, subst}
use Rattle.std.specs.List.{All}
use Rattle.h5_bytes.specs.declared.Block.{Block}
use Rattle.h5_space.specs.Claimed.{Claimed}
use Rattle.h5_space.specs.Indexed.{IsLastBefore}
use Rattle.h5_space.proofs.IndexedLaws.{last_before, none_before}
use Rattle.h5_space.proofs.claims.Claims.last_before.Goals as goal

pub returns-clause-found : goal.returns-clause-found
returns-clause-found c =
    let found = c.in_ok-index.ensures.found in
    subst (λ (s : Claimed). IsLastBefore s.held c.args.place c.in_ok-index.index) c.self.view_is
    (last_before c.self.inside.held.items c.self.inside.places c.self.inside.end c.self.invariant c.args.place c.in_ok-index.field-0-0 c.in_ok-index.index
    found.1 found.0 c.in_ok-index.ensures.last)

pub returns-in_err-index-clause-none : goal.returns-in_err-index-clause-none
returns-in_err-index-clause-none c =
    rw c.from_residual.ensures (subst (λ (s : Claimed). All (λ (b : Block). c.args.place ≤ b.at) s.held) c.self.view_is
    (none_before c.self.inside.held.items c.self.inside.places c.self.inside.end c.self.invariant c.args.place c.in_err-index.ensures.none))
