use Rattle.std.proofs.Common.{◌≡◌, ◌≢◌, ◌<◌, List, length, get_or, refl, ap, ◌∙◌, subst, arith, add-one}
use Rattle.std.specs.Prelude.{slice_index_or, false}
use Rattle.std.proofs.lemmas.List.{get_or_default}
use Rattle.h5_model.specs.Format.Nodes.{node_at}
use Rattle.h5_space.proofs.AddressLaws.{all_at}
use Rattle.h5_btree.specs.Rewritten.{IsRewritten}
use Rattle.h5_btree.specs.Widened.{widened_node}
use Rattle.h5_btree.specs.declared.way.Step.{Step}
use Rattle.h5_btree.specs.declared.widening.End.{End}
use Rattle.h5_btree.proofs.WideningLaws.{both_ends, widened_on, widened_start, written_other}
use Rattle.h5_btree.proofs.widening.widen.Goals as goal
use Rattle.h5_btree.proofs.widening.widen.Goals.{After-widen_end-in-loop-level}

pub loop-level-init : goal.loop-level-init
loop-level-init c = record {
  tree = λ root height k owned list e. e;
  widened = widened_start c.args.image.now c.args.kind c.args.way.now c.args.low.now c.args.high.now;
  others = λ root height k owned list e n listed apart. refl;
}

pub widen_end-requires-clause-ends : goal.widen_end-requires-clause-ends
widen_end-requires-clause-ends c =
    let e = c.requires.tree in
    (e.0, e.1, e.2, e.3, e.4, c.loop-level.invariant.tree e.0 e.1 e.4 e.2 e.3 e.5)

pub widen_end-requires-in-loop-level-clause-ends : goal.widen_end-requires-in-loop-level-clause-ends
widen_end-requires-in-loop-level-clause-ends c =
    let e = c.requires.tree in
    (e.0, e.1, e.2, e.3, e.4, c.widen_end.ensures.tree e.0 e.1 e.4 e.2 e.3 (c.loop-level.invariant.tree e.0 e.1 e.4 e.2 e.3 e.5))

abbrev step_none : Step
step_none = record { node = 0; place = 0 }

abbrev end_none : End
end_none = record { first = false; last = false }

module _ (c : After-widen_end-in-loop-level) where
  low : c.loop-level.level < length c.args.way.now
  low = let ends = ap (λ (es : List End). length es) c.by_level-end-items.ensures.ends in omega (arith, ends, c.loop-level-test.true, c.requires.ends)

  abbrev here : Step
  here = get_or c.args.way.now c.loop-level.level step_none

  at_step : slice_index_or c.args.way.now c.loop-level.level here ≡ here
  at_step = get_or_default c.args.way.now c.loop-level.level _ step_none low

  both : IsRewritten c.loop-level.image c.widen_end-in-loop-level.new.image c.args.kind here.node
      (widened_node (get_or c.args.ends.now c.loop-level.level end_none) c.args.low.now c.args.high.now (node_at c.loop-level.image.bytes c.args.kind here.node))
  both = subst (λ (es : List End). IsRewritten c.loop-level.image c.widen_end-in-loop-level.new.image c.args.kind here.node
      (widened_node (get_or es c.loop-level.level end_none) c.args.low.now c.args.high.now (node_at c.loop-level.image.bytes c.args.kind here.node)))
      c.by_level-end-items.ensures.ends
      (both_ends c.loop-level.image c.widen_end.new.image c.widen_end-in-loop-level.new.image c.args.kind here.node
      (get_or c.by_level-end-items.result.now c.loop-level.level end_none) c.args.low.now c.args.high.now
      (c.widen_end.ensures.key here at_step) (c.widen_end-in-loop-level.ensures.key here at_step))

pub loop-level-preserved : goal.loop-level-preserved
loop-level-preserved c =
    let inv = c.loop-level.invariant in
    let on = low c in
    let within : c.loop-level.level < length c.args.ends.now
    = omega (arith, ap (λ (es : List End). length es) c.by_level-end-items.ensures.ends, c.loop-level-test.true) in
    record {
      tree = λ root height k owned list e.
          c.widen_end-in-loop-level.ensures.tree root height k owned list (c.widen_end.ensures.tree root height k owned list (inv.tree root height k owned list e));
      widened = let e = c.requires.tree in
          rw add-one
          (widened_on c.args.image.now c.loop-level.image c.widen_end-in-loop-level.new.image c.args.kind e.0 e.1 c.args.way.now e.2 e.3 e.4 (inv.tree e.0 e.1 e.4 e.2 e.3 e.5)
          c.args.ends.now c.loop-level.level step_none end_none c.args.low.now c.args.high.now on within (both c) inv.widened);
      others = λ root height k owned list e n listed apart.
          written_other c.loop-level.image c.args.kind root height c.args.way.now owned list k (inv.tree root height k owned list e) c.widen_end-in-loop-level.new.image
          c.loop-level.level step_none on _ (both c) n listed (all_at (λ (step : Step). n ≢ step.node) c.args.way.now c.loop-level.level step_none apart on)
          ∙ inv.others root height k owned list e n listed apart;
    }
