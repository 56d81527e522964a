use Rattle.h5_heap.proofs.TakenLaws.{named_before, named_more, ok_with, ok_by_both}
use Rattle.h5_heap.proofs.heap.Heap.key.Goals as goal

pub returns-then-is_known-clause-named : goal.returns-then-is_known-clause-named
returns-then-is_known-clause-named c = ok_with c.name.result (λ linked loose taken. named_before _ c.args.self.now linked loose c.args.offset taken (c.is_known.ensures.0 c.if-is_known.true))

pub returns-else-is_known-clause-named : goal.returns-else-is_known-clause-named
returns-else-is_known-clause-named c = ok_by_both c.take.result c.take.ensures.span c.take.ensures.takes
    (λ span takes linked loose taken. named_more _ _ _ c.args.offset span takes linked loose taken)
