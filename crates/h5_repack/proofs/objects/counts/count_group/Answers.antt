use Rattle.std.proofs.Common.{ℕ, List, [], ◌∷◌, ◌++◌, sym, subst, take, arith}
use Rattle.h5_repack.specs.Objects.Targets.{targets}
use Rattle.h5_repack.proofs.ObjectLaws.Counting.{AreCounted, counted_one, target_there, targets_more, targets_same, times_room}
use Rattle.h5_repack.proofs.objects.counts.count_group.Goals as goal
use Rattle.h5_repack.proofs.objects.counts.count_group.Goals.{in-Object, in_default}

pub bounds-counts-number : goal.bounds-counts-number
bounds-counts-number c =
    let there = target_there c.args.links.now c.loop-link.link-index _ c.loop-link-test.true c.in-Object.number c.in-Object.is in
    omega (arith, c.requires.below c.in-Object.number.0 there, c.loop-link.invariant.same)

pub overflow_add-counts : goal.overflow_add-counts
overflow_add-counts c =
    let links = c.args.links.now in
    let number = c.in-Object.number in
    let there = target_there links c.loop-link.link-index _ c.loop-link-test.true number c.in-Object.is in
    let low = c.requires.below number.0 there in
    omega (arith, c.requires.few number.0 there, c.loop-link.invariant.each number.0 low, times_room links c.loop-link.link-index _ c.loop-link-test.true number c.in-Object.is)

pub bounds-counts-number-in-Object : goal.bounds-counts-number-in-Object
bounds-counts-number-in-Object c =
    let there = target_there c.args.links.now c.loop-link.link-index _ c.loop-link-test.true c.in-Object.number c.in-Object.is in
    omega (arith, c.requires.below c.in-Object.number.0 there, c.loop-link.invariant.same)

pub loop-link-preserved : goal.loop-link-preserved
loop-link-preserved c =
    let links = c.args.links.now in
    let old = c.args.counts.now in
    let i = c.loop-link.link-index in
    let so_far = targets (take i links) in
    elim c.match-link.branch [
      | in-Object w ↦
          let number = w.in-Object.number in
          let there = target_there links i _ c.loop-link-test.true number w.in-Object.is in
          let counted = counted_one old c.loop-link.counts so_far number.0 c.loop-link.invariant (c.requires.below number.0 there) in
          subst (λ (others : List ℕ). AreCounted old c.match-link.counts others) (sym (targets_more links i _ c.loop-link-test.true number w.in-Object.is))
          (subst (λ (counts : List ℕ). AreCounted old counts (so_far ++ number.0 ∷ [])) (sym w.counts-is) counted)
      | in_default w ↦
          subst (λ (others : List ℕ). AreCounted old c.match-link.counts others) (sym (targets_same links i _ c.loop-link-test.true w.in_default.field-0 w.in_default.is))
          (subst (λ (counts : List ℕ). AreCounted old counts so_far) (sym w.counts-is) c.loop-link.invariant)
    ]
