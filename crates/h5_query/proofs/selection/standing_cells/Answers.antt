use Rattle.std.proofs.Common.{Bor, ℕ, List, Option, Some, None}
use Rattle.std.specs.Option.{IfSome}
use Rattle.h5_query.proofs.StandingSelection.{selection_accepted, selection_is}
use Rattle.h5_query.proofs.selection.standing_cells.Goals as goal

-- what holds of something where there is one
by_each : {P Q : Bor (List ℕ) → Type 0} (r : Option (Bor (List ℕ))) → IfSome r P → ((bytes : Bor (List ℕ)) → P bytes → Q bytes) → IfSome r Q
by_each None is each = tt
by_each (Some bytes) is each = each bytes is

pub returns-clause-bytes : goal.returns-clause-bytes
returns-clause-bytes c =
    let d = c.args.array.now in
    let hyper = c.args.hyper.now in
    by_each c.standing.result c.standing.ensures.bytes (λ bytes is. record {
      accepted = selection_accepted d.sizes hyper is.selection is.rank is.within;
      slab = selection_is d.sizes hyper is.selection is.rank is.within;
      same = is.same;
    })
