use Rattle.std.proofs.Common.{◌<◌, ℕ, length, get_or, refl, sym, subst, arith}
use Rattle.h5_model.specs.Format.Chunks.{IsOffset}
use Rattle.h5_chunks.proofs.OffsetLaws.{aligned_from, aligned_at}
use Rattle.h5_chunks.proofs.key.are_aligned.Goals as goal

pub returns-then-not-is_aligned : goal.returns-then-not-is_aligned
returns-then-not-is_aligned c = (
  λ never. absurd (cc),
  λ all.
      let d = c.loop-d.d in
      let low : d < length c.args.sizes.now = omega arith in
      let fine = c.is_aligned.ensures.1 (subst (λ (n : ℕ). IsOffset (get_or c.args.sizes.now d 0) n) (sym c.u64_at.ensures) (aligned_at c.args.sizes.now c.args.key.now d all low)) in
      absurd (cc),
)

pub returns : goal.returns
returns c = (λ yes. aligned_from c.args.sizes.now c.args.key.now (λ j low. c.loop-d.invariant j (omega (arith, low))), λ all. refl)
