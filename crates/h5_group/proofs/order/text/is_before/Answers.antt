use Rattle.std.proofs.Common.{◌≡◌, ◌+◌, ◌-◌, refl, subst, arith}
use Rattle.h5_group.specs.Order.Common.{HaveCommon}
use Rattle.h5_group.proofs.OrderProofs.TextCommon.{common_more, texts_decide_on}
use Rattle.h5_group.proofs.order.text.is_before.Goals as goal

pub returns-in-Some : goal.returns-in-Some
returns-in-Some c =
    let n = c.loop-k.at - c.args.name in
    let at_is : c.loop-k.at ≡ c.args.name + n = omega arith in
    texts_decide_on c.args.segment.now c.args.name c.args.other c.loop-k.at c.loop-k.at_other n at_is (c.loop-k.invariant).1 (c.loop-k.invariant).2
    c.in-Some.k c.in-Some.ensures.common (omega (arith, c.loop-k-test.ensures.0 refl, c.in-Some.ensures.few))
    (omega (arith, c.if-has_lanes.ensures.0 refl, c.in-Some.ensures.few))
    c.in-Some.ensures.apart

pub loop-k-preserved : goal.loop-k-preserved
loop-k-preserved c =
    let n = c.loop-k.at - c.args.name in
    let at_is : c.loop-k.at ≡ c.args.name + n = omega arith in
    let more : n + 16 ≡ c.loop-k.at + 16 - c.args.name = omega arith in (
      omega arith,
      omega arith,
      subst (HaveCommon c.args.segment.now c.args.name c.args.other) more
          (common_more c.args.segment.now c.args.name c.args.other c.loop-k.at c.loop-k.at_other n at_is (c.loop-k.invariant).1 (c.loop-k.invariant).2
          16 c.in_default.ensures.none),
    )
