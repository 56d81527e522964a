use Rattle.std.proofs.Common.{[], ◌∷◌}
use Rattle.h5_model.specs.Format.Sizes.{text_span}
use Rattle.h5_heap.specs.Chain.{free_from, Relists}
use Rattle.h5_heap.specs.Inserted.{IsFront, rest_of}
use Rattle.h5_heap.proofs.InsertLaws.{inserts_front, front_long, even_span, front_inner}
use Rattle.h5_heap.proofs.put.put_in_front.Goals as goal
use Rattle.h5_heap.proofs.put.put_in_front.Goals.{After-take_front-first}

pub take_front-first-requires-clause-found : goal.take_front-first-requires-clause-found
take_front-first-requires-clause-found c = rw c.text_span.ensures c.requires.found

pub take_front-first-requires-clause-aligned : goal.take_front-first-requires-clause-aligned
take_front-first-requires-clause-aligned c = rw c.text_span.ensures (even_span c.args.text.now)

relists : (c : After-take_front-first) → Relists c.args.segment.now c.take_front-first.new.segment c.args.first c.take_front-first.result (c.args.block ∷ []) (rest_of (text_span c.args.text.now) c.args.block)
relists c = rw c.text_span.ensures at c.take_front-first.ensures.relists

front : (c : After-take_front-first) → IsFront (free_from c.args.segment.now c.args.first) (free_from c.take_front-first.new.segment c.take_front-first.result) c.args.block.at (text_span c.args.text.now)
front c = rw c.text_span.ensures at c.take_front-first.ensures.front

pub put_text-requires : goal.put_text-requires
put_text-requires c =
    let w = (goal.at.put_text-requires c).After-take_front-first in
    front_inner _ _ _ _ c.args.text.now c.args.block c.requires.chain c.requires.found (relists w) (front w) c.take_front-first.ensures.ascending

pub returns-clause-inserted : goal.returns-clause-inserted
returns-clause-inserted c =
    let w = (goal.at.returns-clause-inserted c).After-take_front-first in
    rw c.put_text.ensures (inserts_front _ _ _ _ c.args.text.now c.args.block c.requires.chain c.requires.found (relists w) (front w) c.take_front-first.ensures.ascending)

pub returns-clause-long : goal.returns-clause-long
returns-clause-long c =
    let w = (goal.at.returns-clause-long c).After-take_front-first in
    rw c.put_text.ensures (front_long _ _ _ _ c.args.text.now c.args.block c.requires.chain c.requires.found (relists w) (front w) c.take_front-first.ensures.ascending)
