use Rattle.std.proofs.Common.{◌≡◌, ◌∙◌, ℕ, ◌+◌, ◌≤◌, ◌<◌, Some, true, false, sym, ap, arith}
use Rattle.std.proofs.lemmas.Bool.Decides.{nat_tests}
use Rattle.h5_bytes.specs.Bytes.{number_at}
use Rattle.h5_bytes.specs.Blocks.{block}
use Rattle.h5_heap.specs.Sought.{is_enough}
use Rattle.h5_heap.proofs.ChainLaws.{step_at, fewer_at, find_end, find_here, find_on}
use Rattle.h5_heap.proofs.chain.find_free.Goals as goal

pub overflow_add-next : goal.overflow_add-next
overflow_add-next c =
    let s = step_at c.args.segment.now c.loop-next.next c.loop-next-test.true c.loop-next.invariant.0 in
    grind (arith, s.within, s.free.room)

pub u64_at-requires : goal.u64_at-requires
u64_at-requires c =
    let s = step_at c.args.segment.now c.loop-next.next c.loop-next-test.true c.loop-next.invariant.0 in
    omega (arith, s.within, s.free.room)

pub u64_at-next-requires : goal.u64_at-next-requires
u64_at-next-requires c =
    let s = step_at c.args.segment.now c.loop-next.next c.loop-next-test.true c.loop-next.invariant.0 in
    omega (arith, s.within, s.free.room)

pub returns-then-len-block : goal.returns-then-len-block
returns-then-len-block c =
    let segment = c.args.segment.now in
    let next = c.loop-next.next in
    let long : c.args.len ≤ number_at segment (next + 8) 8 = omega (arith, c.u64_at.ensures, c.if-len-block.true) in
    let enough : is_enough c.args.len (block next (number_at segment (next + 8) 8)) ≡ true = grind (arith, nat_tests, long) in
    ap (λ (n : ℕ). Some (block next n)) c.u64_at.ensures
    ∙ sym (c.loop-next.invariant.1 ∙ find_here (is_enough c.args.len) segment next c.loop-next-test.true c.loop-next.invariant.0 enough)

pub loop-next-smaller : goal.loop-next-smaller
loop-next-smaller c = rw c.u64_at-next.ensures (fewer_at c.args.segment.now c.loop-next.next c.loop-next-test.true c.loop-next.invariant.0)

pub loop-next-preserved : goal.loop-next-preserved
loop-next-preserved c =
    let segment = c.args.segment.now in
    let next = c.loop-next.next in
    let short : number_at segment (next + 8) 8 < c.args.len = omega (arith, c.u64_at.ensures, c.if-len-block.false) in
    let no : is_enough c.args.len (block next (number_at segment (next + 8) 8)) ≡ false = grind (arith, nat_tests, short) in
    rw c.u64_at-next.ensures (
      (step_at segment next c.loop-next-test.true c.loop-next.invariant.0).more,
      c.loop-next.invariant.1 ∙ find_on (is_enough c.args.len) segment next c.loop-next-test.true c.loop-next.invariant.0 no,
    )

pub returns : goal.returns
returns c = sym (c.loop-next.invariant.1 ∙ find_end (is_enough c.args.len) c.args.segment.now c.loop-next.next c.loop-next-test.false)
