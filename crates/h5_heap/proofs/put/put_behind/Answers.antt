use Rattle.std.proofs.Common.{◌≡◌, ℕ, ◌+◌, ◌-◌, ◌≤◌, None, [], ◌∷◌, arith, length}
use Rattle.std.specs.List.{find}
use Rattle.h5_bytes.specs.Blocks.{block}
use Rattle.h5_bytes.specs.Texts.{pad8}
use Rattle.h5_model.specs.Format.Sizes.{text_span}
use Rattle.h5_heap.specs.Chain.{free_from, Relists, IsPutIn}
use Rattle.h5_heap.specs.Released.{Releases}
use Rattle.h5_heap.specs.Sought.{begins_at, ends_at}
use Rattle.h5_heap.proofs.InsertLaws.{inserts_behind, behind_long, longer_chain, nothing_past, apart_past}
use Rattle.h5_heap.proofs.OrderLaws.{find_far, ends_hold, begins_hold}
use Rattle.h5_heap.proofs.ReleaseLaws.{alone_relists, alone_put}
use Rattle.h5_heap.proofs.put.put_behind.Goals as goal
use Rattle.h5_heap.proofs.put.put_behind.Goals.{After-release-first}

pub release-first-requires-clause-chain : goal.release-first-requires-clause-chain
release-first-requires-clause-chain c = longer_chain c.args.segment.now c.args.size c.args.first c.requires.size c.requires.chain

pub release-first-requires-clause-apart : goal.release-first-requires-clause-apart
release-first-requires-clause-apart c =
    apart_past c.args.segment.now c.args.size c.args.first c.requires.size c.requires.chain (c.padded-at.result + c.text_span.result)
    (length c.args.segment.now - (c.padded-at.result + c.text_span.result)) (omega (arith, c.padded-at.ensures))

abbrev end : After-release-first → ℕ
end c = pad8 c.args.size + text_span c.args.text.now

released : (c : After-release-first) → Releases c.args.segment.now c.release-first.new.segment c.args.first c.release-first.result (end c) (length c.args.segment.now - end c)
released c = rw (c.padded-at.ensures, c.text_span.ensures) at c.release-first.ensures

enough : (c : After-release-first) → 16 ≤ length c.args.segment.now - end c
enough c = omega (arith, c.requires.room)

before : (c : After-release-first) → find (ends_at (end c)) (free_from c.args.segment.now c.args.first) ≡ None
before c =
    let chain = longer_chain c.args.segment.now c.args.size c.args.first c.requires.size c.requires.chain in
    find_far (ends_at (end c)) (end c - 1) (ends_hold (end c)) (free_from c.args.segment.now c.args.first) chain.each
    (nothing_past c.args.segment.now c.args.size c.args.first c.requires.size c.requires.chain (end c - 1) (omega arith))

behind : (c : After-release-first) → find (begins_at (end c + (length c.args.segment.now - end c))) (free_from c.args.segment.now c.args.first) ≡ None
behind c =
    let chain = longer_chain c.args.segment.now c.args.size c.args.first c.requires.size c.requires.chain in
    let stop = end c + (length c.args.segment.now - end c) in
    find_far (begins_at stop) stop (begins_hold stop) (free_from c.args.segment.now c.args.first) chain.each
    (nothing_past c.args.segment.now c.args.size c.args.first c.requires.size c.requires.chain stop (omega arith))

relists : (c : After-release-first) → Relists c.args.segment.now c.release-first.new.segment c.args.first c.release-first.result []
    (block (end c) (length c.args.segment.now - end c) ∷ [])
relists c = alone_relists _ _ _ _ _ _ (released c) (enough c) (before c) (behind c)

put : (c : After-release-first) → IsPutIn (block (end c) (length c.args.segment.now - end c)) (free_from c.args.segment.now c.args.first)
    (free_from c.release-first.new.segment c.release-first.result)
put c = alone_put _ _ _ _ _ _ (released c) (enough c) (before c) (behind c)

pub returns-clause-inserted : goal.returns-clause-inserted
returns-clause-inserted c =
    let w = (goal.at.returns-clause-inserted c).After-release-first in
    rw (c.put_text.ensures, c.padded-at.ensures) (inserts_behind c.args.segment.now c.args.size c.args.first c.requires.size c.requires.chain c.args.text.now _ _
    c.requires.none c.requires.room (relists w) (put w) (released w).ascending)

pub returns-clause-long : goal.returns-clause-long
returns-clause-long c =
    let w = (goal.at.returns-clause-long c).After-release-first in
    rw (c.put_text.ensures, c.padded-at.ensures) (behind_long c.args.segment.now c.args.size c.args.first c.requires.size c.requires.chain c.args.text.now _ _
    c.requires.none c.requires.room (relists w) (put w) (released w).ascending)
