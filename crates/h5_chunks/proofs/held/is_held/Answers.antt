use Rattle.std.proofs.Common.{◌<◌, ℕ, length, sym, arith}
use Rattle.h5_chunks.proofs.InsideLaws.{key_inside, key_outside}
use Rattle.h5_chunks.proofs.held.is_held.Goals as goal

pub returns-then-u64_at-sizes : goal.returns-then-u64_at-sizes
returns-then-u64_at-sizes c =
    let d : ℕ = c.loop-d.d in
    let low : d < length c.args.sizes.now = omega arith in
    sym (key_outside c.args.sizes.now c.args.key.now d low (λ under. omega (arith, under, c.u64_at.ensures)))

pub returns : goal.returns
returns c = sym (key_inside c.args.sizes.now c.args.key.now (λ j low. c.loop-d.invariant j (omega (arith, low))))
