use Rattle.std.proofs.Common.{◌≡◌, ℕ, ◌-◌, ◌<◌, List, length, get_or, sym, ◌∙◌, below_more, arith}
use Rattle.h5_model.specs.Format.Chunks.{offsets_in}
use Rattle.h5_chunks.proofs.ReachLaws.{offset_at_key, offsets_long, reaches_at, reaches_nowhere}
use Rattle.h5_chunks.proofs.beyond.reaches_beyond.Goals as goal
use Rattle.h5_chunks.proofs.beyond.reaches_beyond.Goals.{After-u64_at}

here : (c : After-u64_at) → get_or (offsets_in (length c.args.chunk.now) c.args.key.now) c.loop-d.d 0 ≡ c.u64_at.result
here c = offset_at_key (length c.args.chunk.now) c.args.key.now c.loop-d.d c.loop-d-test.true ∙ sym c.u64_at.ensures

pub returns-then-saturating_sub-chunk : goal.returns-then-saturating_sub-chunk
returns-then-saturating_sub-chunk c =
    let chunk : List ℕ = c.args.chunk.now in
    let sizes : List ℕ = c.args.sizes.now in
    let offsets : List ℕ = offsets_in (length chunk) c.args.key.now in
    let d : ℕ = c.loop-d.d in
    let at = here (goal.at.returns-then-saturating_sub-chunk c).After-u64_at in
    let less : get_or sizes d 0 - get_or offsets d 0 < get_or chunk d 0 = omega (arith, at, c.saturating_sub.ensures, c.if-saturating_sub-chunk.true) in
    sym (reaches_at sizes chunk offsets d c.requires.rank (offsets_long (length chunk) c.args.key.now) c.loop-d-test.true less)

pub loop-d-preserved : goal.loop-d-preserved
loop-d-preserved c =
    let at = here (goal.at.loop-d-preserved c).After-u64_at in
    below_more _ _ c.loop-d.invariant (omega (arith, at, c.saturating_sub.ensures, c.if-saturating_sub-chunk.false))

pub returns : goal.returns
returns c =
    let chunk : List ℕ = c.args.chunk.now in
    let key : List ℕ = c.args.key.now in
    let n : ℕ = length chunk in
    sym (reaches_nowhere c.args.sizes.now chunk (offsets_in n key) c.requires.rank (offsets_long n key) c.requires.sizes.some
    (λ j low. c.loop-d.invariant j (omega (arith, low, c.loop-d-test.false))))
