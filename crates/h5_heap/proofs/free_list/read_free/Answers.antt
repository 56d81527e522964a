use Rattle.std.proofs.Common.{◌≡◌, ◌≤◌, inl, inr, [], ◌∷◌, ◌++◌, length, ◌∙◌, rules, arith}
use Rattle.std.proofs.lemmas.Result.{err_from_is_err_and}
use Rattle.h5_space.proofs.Unheld.{unheld-claim}
use Rattle.h5_heap.proofs.FreeLaws.{StandsFor, walked_more, walked_end, walked_no_further}
use Rattle.h5_heap.proofs.free_list.read_free.Goals as goal
use Rattle.h5_heap.proofs.free_list.read_free.Goals.{then-head-eq-UNDEF, else-head-eq-UNDEF}

pub returns-in_err-block-clause-refused : goal.returns-in_err-block-clause-refused
returns-in_err-block-clause-refused c =
    let stands : StandsFor c.args.head c.if-head-eq-UNDEF.next = elim c.if-head-eq-UNDEF.branch [
      | then-head-eq-UNDEF w ↦ inl (w.if-head-eq-UNDEF.true, w.next-is)
      | else-head-eq-UNDEF w ↦ inr (w.if-head-eq-UNDEF.false, w.next-is)
    ] in
    let p = err_from_is_err_and c.from_residual.result c.from_residual.ensures.1 in
    rw (p.1, p.2) (elim c.in_err-block.ensures.refused [
      | inl none ↦ inl none
      | inr stops ↦ inr (stops.0, walked_no_further c.args.segment.now c.args.head _ _ _ _ stands c.loop-next.invariant.2 c.loop-next-test.true stops.1)
    ])

pub loop-next-smaller : goal.loop-next-smaller
loop-next-smaller c =
    let here = c.in_ok-block.ensures.next in
    let room : 16 ≤ c.in_ok-block.block.len = here.free.room in
    let fewer = unheld-claim c.loop-next.spans.held c.claim_free.new.spans.held c.in_ok-block.block.at c.in_ok-block.block.len (length c.args.segment.now)
    c.in_ok-block.ensures.claimed c.in_ok-block.ensures.separate here.within in
    omega arith

pub loop-next-preserved : goal.loop-next-preserved
loop-next-preserved c =
    let blocks : c.push.new.self.items ≡ c.loop-next.blocks.items ++ c.in_ok-block.block ∷ [] = search rules in (
      c.claim_free.ensures.end ∙ c.loop-next.invariant.0,
      c.in_ok-block.ensures.separate,
      rw (blocks, c.u64_at-next.ensures)
          (walked_more c.args.segment.now _ _ _ _ _ c.in_ok-block.block c.loop-next.invariant.2 c.in_ok-block.ensures.next c.in_ok-block.ensures.claimed),
    )

pub returns-clause-list : goal.returns-clause-list
returns-clause-list c =
    let stands : StandsFor c.args.head c.if-head-eq-UNDEF.next = elim c.if-head-eq-UNDEF.branch [
      | then-head-eq-UNDEF w ↦ inl (w.if-head-eq-UNDEF.true, w.next-is)
      | else-head-eq-UNDEF w ↦ inr (w.if-head-eq-UNDEF.false, w.next-is)
    ] in
    walked_end c.args.segment.now c.args.head _ _ _ stands (rw c.loop-next-test.false at c.loop-next.invariant.2) c.loop-next.invariant.1
