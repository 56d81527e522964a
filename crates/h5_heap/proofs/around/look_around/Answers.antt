use Rattle.std.proofs.Common.{◌≡◌, ◌≢◌, ℕ, ◌+◌, ◌≤◌, List, [], ◌∷◌, ◌++◌, length, sym, ap, subst, ◌∙◌, arith, append-nil}
use Rattle.h5_bytes.specs.declared.Block.{Block}
use Rattle.h5_heap.specs.Around.{IsAround}
use Rattle.h5_heap.specs.Chain.{free_from}
use Rattle.h5_heap.proofs.ChainLaws.{free_block_at, step_at, fewer_at, free_from_end}
use Rattle.h5_heap.proofs.AroundLaws.{walked, around_left, place_left, around_below, around_right, around_past, place_more}
use Rattle.h5_heap.proofs.around.look_around.Goals as goal

pub overflow_add-next : goal.overflow_add-next
overflow_add-next c =
    let s = step_at c.args.segment.now c.loop-next.next c.loop-next-test.true c.loop-next.invariant.0 in
    grind (arith, s.within, s.free.room)

pub u64_at-requires : goal.u64_at-requires
u64_at-requires c =
    let s = step_at c.args.segment.now c.loop-next.next c.loop-next-test.true c.loop-next.invariant.0 in
    omega (arith, s.within, s.free.room)

pub u64_at-next-requires : goal.u64_at-next-requires
u64_at-next-requires c =
    let s = step_at c.args.segment.now c.loop-next.next c.loop-next-test.true c.loop-next.invariant.0 in
    omega (arith, s.within, s.free.room)

pub overflow_add-block : goal.overflow_add-block
overflow_add-block c =
    let s = step_at c.args.segment.now c.loop-next.next c.loop-next-test.true c.loop-next.invariant.0 in
    grind (arith, s.within, c.u64_at.ensures)

pub loop-next-smaller-then-block-at : goal.loop-next-smaller-then-block-at
loop-next-smaller-then-block-at c =
    rw c.u64_at-next.ensures (fewer_at c.args.segment.now c.loop-next.next c.loop-next-test.true c.loop-next.invariant.0)

pub loop-next-preserved-then-block-at : goal.loop-next-preserved-then-block-at
loop-next-preserved-then-block-at c =
    let i = c.loop-next.invariant in
    let segment = c.args.segment.now in
    let b = free_block_at segment c.loop-next.next in
    let s = step_at segment c.loop-next.next c.loop-next-test.true i.0 in
    let w = walked segment c.args.first c.loop-next.next i.1.0 c.requires.chain c.loop-next-test.true i.0 i.1.1 in
    let ends : b.at + b.len ≡ c.args.at = ap (λ (n : ℕ). c.loop-next.next + n) (sym c.u64_at.ensures) ∙ c.if-block-at.true in
    rw (c.u64_at-next.ensures, c.u64_at.ensures) (
      s.more,
      (
        i.1.0 ++ b ∷ [],
        w.more,
        around_left i.1.0 b c.args.at c.args.end c.requires.filled c.loop-next.place c.loop-next.around i.1.2 i.1.3 w.each w.apart ends,
        place_left i.1.0 b c.args.at c.args.end c.requires.filled c.loop-next.place c.loop-next.around i.1.2 i.1.3 w.each w.apart ends,
      ),
    )

pub loop-next-smaller-then-block-at-2 : goal.loop-next-smaller-then-block-at-2
loop-next-smaller-then-block-at-2 c =
    rw c.u64_at-next.ensures (fewer_at c.args.segment.now c.loop-next.next c.loop-next-test.true c.loop-next.invariant.0)

pub loop-next-preserved-then-block-at-2 : goal.loop-next-preserved-then-block-at-2
loop-next-preserved-then-block-at-2 c =
    let i = c.loop-next.invariant in
    let segment = c.args.segment.now in
    let b = free_block_at segment c.loop-next.next in
    let s = step_at segment c.loop-next.next c.loop-next-test.true i.0 in
    let w = walked segment c.args.first c.loop-next.next i.1.0 c.requires.chain c.loop-next-test.true i.0 i.1.1 in
    let other : b.at + b.len ≢ c.args.at = λ e. c.if-block-at.false (ap (λ (n : ℕ). c.loop-next.next + n) c.u64_at.ensures ∙ e) in
    rw (c.u64_at-next.ensures, c.greater_of.ensures) (
      s.more,
      (
        i.1.0 ++ b ∷ [],
        w.more,
        around_below i.1.0 b c.args.at c.args.end c.requires.filled c.loop-next.place c.loop-next.around i.1.2 i.1.3 w.each w.apart other c.if-block-at-2.true,
        place_more i.1.0 b c.args.at c.args.end c.requires.filled c.loop-next.place c.loop-next.around i.1.2 i.1.3 w.each w.apart other,
      ),
    )

pub loop-next-smaller-then-block-end : goal.loop-next-smaller-then-block-end
loop-next-smaller-then-block-end c =
    rw c.u64_at-next.ensures (fewer_at c.args.segment.now c.loop-next.next c.loop-next-test.true c.loop-next.invariant.0)

pub loop-next-preserved-then-block-end : goal.loop-next-preserved-then-block-end
loop-next-preserved-then-block-end c =
    let i = c.loop-next.invariant in
    let segment = c.args.segment.now in
    let b = free_block_at segment c.loop-next.next in
    let s = step_at segment c.loop-next.next c.loop-next-test.true i.0 in
    let w = walked segment c.args.first c.loop-next.next i.1.0 c.requires.chain c.loop-next-test.true i.0 i.1.1 in
    let other : b.at + b.len ≢ c.args.at = λ e. c.if-block-at.false (ap (λ (n : ℕ). c.loop-next.next + n) c.u64_at.ensures ∙ e) in
    let past : c.args.at ≤ b.at = omega (arith, c.if-block-at-2.false) in
    rw (c.u64_at-next.ensures, c.u64_at.ensures) (
      s.more,
      (
        i.1.0 ++ b ∷ [],
        w.more,
        around_right i.1.0 b c.args.at c.args.end c.requires.filled c.loop-next.place c.loop-next.around i.1.2 i.1.3 w.each w.apart other past c.if-block-end.true,
        place_more i.1.0 b c.args.at c.args.end c.requires.filled c.loop-next.place c.loop-next.around i.1.2 i.1.3 w.each w.apart other,
      ),
    )

pub loop-next-smaller : goal.loop-next-smaller
loop-next-smaller c =
    rw c.u64_at-next.ensures (fewer_at c.args.segment.now c.loop-next.next c.loop-next-test.true c.loop-next.invariant.0)

pub loop-next-preserved : goal.loop-next-preserved
loop-next-preserved c =
    let i = c.loop-next.invariant in
    let segment = c.args.segment.now in
    let b = free_block_at segment c.loop-next.next in
    let s = step_at segment c.loop-next.next c.loop-next-test.true i.0 in
    let w = walked segment c.args.first c.loop-next.next i.1.0 c.requires.chain c.loop-next-test.true i.0 i.1.1 in
    let other : b.at + b.len ≢ c.args.at = λ e. c.if-block-at.false (ap (λ (n : ℕ). c.loop-next.next + n) c.u64_at.ensures ∙ e) in
    let past : c.args.at ≤ b.at = omega (arith, c.if-block-at-2.false) in
    rw (c.u64_at-next.ensures) (
      s.more,
      (
        i.1.0 ++ b ∷ [],
        w.more,
        around_past i.1.0 b c.args.at c.args.end c.requires.filled c.loop-next.place c.loop-next.around i.1.2 i.1.3 w.each w.apart other past c.if-block-end.false,
        place_more i.1.0 b c.args.at c.args.end c.requires.filled c.loop-next.place c.loop-next.around i.1.2 i.1.3 w.each w.apart other,
      ),
    )

pub returns : goal.returns
returns c =
    let i = c.loop-next.invariant in
    let segment = c.args.segment.now in
    let whole : free_from segment c.args.first ≡ i.1.0
    = i.1.1 ∙ ap (λ (bs : List Block). i.1.0 ++ bs) (ap (free_from segment) c.loop-next-test.false ∙ free_from_end (length segment) segment) ∙ append-nil i.1.0 in
    subst (λ (bs : List Block). IsAround bs c.args.at c.args.end c.loop-next.around) (sym whole) i.1.2
