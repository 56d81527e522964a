use Rattle.std.proofs.Common.{sym, ◌∙◌, subst, List}
use Rattle.std.specs.List.{remove}
use Rattle.h5_btree.specs.Removal.{IsTakenAlong}
use Rattle.h5_btree.specs.declared.way.Step.{Step}
use Rattle.h5_btree.proofs.WaySteps.{ends_with}
use Rattle.h5_btree.proofs.removal.take_from.Goals as goal

pub take_along-requires-clause-shrunk : goal.take_along-requires-clause-shrunk
take_along-requires-clause-shrunk c =
    let e = c.requires.ends in
    record {
      start = c.args.image.now;
      root = e.0;
      level = 0;
      list = remove e.3 e.4;
      owned = e.2;
      own = e.2;
      shrinks = ends_with c.args.image.now c.args.kind e.0 e.1 c.args.way.now e.2 e.3 e.4 e.5 c.in-Some.step.now c.in-Some.above.now
          (sym c.steps.ensures.steps ∙ c.in-Some.ensures.cases.0);
    }

pub returns-in-Some-clause-taken : goal.returns-in-Some-clause-taken
returns-in-Some-clause-taken c = λ root level k owned list e.
    let cut = sym c.steps.ensures.steps ∙ c.in-Some.ensures.cases.0 in
    subst (λ (ws : List Step). IsTakenAlong c.args.image.now c.take_along.new.image c.args.kind root ws (remove list k) owned) (sym cut)
    (c.take_along.ensures.taken c.args.image.now root 0 (remove list k) owned owned
    (ends_with c.args.image.now c.args.kind root level c.args.way.now owned list k e c.in-Some.step.now c.in-Some.above.now cut))
