use Rattle.std.proofs.Common.{ℕ, ◌+◌, ◌-◌, ◌≤◌, List, length, get_or, below_more, arith}
use Rattle.std.proofs.lemmas.Bool.Decides.{nat_tests}
use Rattle.h5_chunks.proofs.ReachLaws.{EndInside, between_inside, offset_of}
use Rattle.h5_chunks.proofs.beyond.may_reach.Goals as goal

pub returns-then-u64_at-last : goal.returns-then-u64_at-last
returns-then-u64_at-last c past offsets long held =
    let chunk : List ℕ = c.args.chunk.now in
    let sizes : List ℕ = c.args.sizes.now in
    let low : List ℕ = c.args.low.now in
    let high : List ℕ = c.args.high.now in
    let d : ℕ = c.loop-d.d in
    let last : length chunk ≤ d + 1 = grind (arith, nat_tests, past) in
    let here : get_or chunk d 0 ≤ get_or sizes d 0 - offset_of high d
    = omega (arith, c.u64_at-last.ensures, c.saturating_sub.ensures, c.if-saturating_sub-chunk.false) in
    let more : EndInside sizes chunk low high (d + 1) = below_more _ _ c.loop-d.invariant.inside here in
    let all : EndInside sizes chunk low high (length chunk) = λ j few. more j (omega (arith, few, last)) in
    between_inside sizes chunk low high c.requires.rank c.requires.sizes.some offsets long held d last c.loop-d.invariant.alike all

pub returns : goal.returns
returns c is offsets long held =
    let chunk : List ℕ = c.args.chunk.now in
    let d : ℕ = c.loop-d.d in
    let end : length chunk ≤ d = omega (arith, c.loop-d-test.false) in
    let inside : EndInside c.args.sizes.now chunk c.args.low.now c.args.high.now (length chunk) = λ j few. c.loop-d.invariant.inside j (omega (arith, few, end)) in
    between_inside c.args.sizes.now chunk c.args.low.now c.args.high.now c.requires.rank c.requires.sizes.some offsets long held d
    (omega (arith, end)) c.loop-d.invariant.alike inside
