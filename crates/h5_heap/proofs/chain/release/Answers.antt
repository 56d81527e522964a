use Rattle.std.proofs.Common.{List, ◌-◌, ◌≤◌, sym, subst, arith}
use Rattle.std.specs.Option.{IfSome}
use Rattle.h5_bytes.specs.Blocks.{block}
use Rattle.h5_bytes.specs.declared.Block.{Block}
use Rattle.h5_heap.specs.Around.{IsNeighbour}
use Rattle.h5_heap.specs.Chain.{free_from, Stands, IsPutIn, Ascends, IsGreatestBelow}
use Rattle.h5_heap.specs.Sought.{begins_at}
use Rattle.h5_heap.proofs.OrderLaws.{put_in, stands_lists, ascends_put}
use Rattle.h5_heap.proofs.ReleaseLaws.{released_apart, released_left, released_linked, joined_le, below_stays, greatest_stays}
use Rattle.h5_heap.proofs.chain.release.Goals as goal
use Rattle.h5_heap.proofs.chain.release.Goals.{After-join_right-first}

pub join_right-first-requires-clause-right : goal.join_right-first-requires-clause-right
join_right-first-requires-clause-right c =
    subst (λ (bs : List Block). IsNeighbour (begins_at c.args.end) bs c.look_around-around.result.right) (sym c.join_left-first.ensures.rest) c.look_around-around.ensures.right

pub returns-then-len-lt-LEAST_FREE : goal.returns-then-len-lt-LEAST_FREE
returns-then-len-lt-LEAST_FREE c =
    let l = c.join_left-first in
    let r = c.join_right-first in
    released_left _ _ _ _ _ _ c.args.at c.args.end _ _ c.requires.filled l.ensures.relists l.ensures.joined r.ensures.relists r.ensures.joined
    l.ensures.begin l.ensures.rest r.ensures.stop r.ensures.rest c.if-len-lt-LEAST_FREE.true l.ensures.same

pub link_behind-requires-clause-apart : goal.link_behind-requires-clause-apart
link_behind-requires-clause-apart c =
    let l = c.join_left-first in
    let r = c.join_right-first in
    released_apart _ _ _ _ _ _ c.args.at c.args.end _ _ c.requires.filled l.ensures.relists l.ensures.joined r.ensures.relists r.ensures.joined
    l.ensures.begin l.ensures.rest r.ensures.stop r.ensures.rest c.requires.apart

-- of the blocks that stay, the greatest below is the same
listed : (c : After-join_right-first) → IfSome c.look_around-around.result.below (λ p. Stands p (free_from c.join_left-first.new.segment c.join_left-first.result.0))
listed c = rw c.join_left-first.ensures.rest c.look_around-around.ensures.listed

greatest : (c : After-join_right-first) → IsGreatestBelow (free_from c.join_left-first.new.segment c.join_left-first.result.0) c.args.at c.look_around-around.result.below
greatest c = rw c.join_left-first.ensures.rest c.look_around-around.ensures.greatest

stands : (c : After-join_right-first) → IfSome c.look_around-around.result.below (λ p. Stands p (free_from c.join_right-first.new.segment c.join_right-first.result.0))
stands c = rw c.join_right-first.ensures.rest
    (below_stays _ c.args.at c.args.end c.look_around-around.result.below c.requires.filled (listed c) (greatest c))

pub link_behind-requires-clause-place : goal.link_behind-requires-clause-place
link_behind-requires-clause-place c =
    let r = c.join_right-first in
    stands_lists r.new.segment r.result.0 c.look_around-around.result.below r.ensures.relists.chain
    (stands (goal.at.link_behind-requires-clause-place c).After-join_right-first)

pub returns : goal.returns
returns c =
    let w = (goal.at.returns c).After-join_right-first in
    let l = c.join_left-first in
    let r = c.join_right-first in
    let below = c.look_around-around.result.below in
    let old : List Block = free_from r.new.segment r.result.0 in
    let b : Block = block l.result.1 (r.result.1 - l.result.1) in
    let enough : 16 ≤ b.len = omega (arith, c.if-len-lt-LEAST_FREE.false) in
    let apart = released_apart _ _ _ _ _ _ c.args.at c.args.end _ _ c.requires.filled l.ensures.relists l.ensures.joined r.ensures.relists r.ensures.joined
    l.ensures.begin l.ensures.rest r.ensures.stop r.ensures.rest c.requires.apart in
    let most : IsGreatestBelow old b.at below
    = rw r.ensures.rest (greatest_stays _ c.args.at c.args.end below c.requires.filled (listed w) (greatest w) b.at
    (joined_le _ c.args.at b.at l.ensures.joined) l.ensures.relists.chain.each (λ q. omega (arith, l.ensures.relists.covered q, c.requires.chain.apart q))) in
    let put : IsPutIn b old (free_from c.link_behind.new.segment c.link_behind.result)
    = subst (IsPutIn b old) (sym c.link_behind.ensures.listed) (put_in below old b (stands w)) in
    released_linked _ _ _ _ _ _ c.args.at c.args.end _ _ c.requires.filled l.ensures.relists l.ensures.joined r.ensures.relists r.ensures.joined
    l.ensures.begin l.ensures.rest r.ensures.stop r.ensures.rest _ _ c.link_behind.ensures.relists enough put
    (λ up. subst Ascends (sym c.link_behind.ensures.listed)
    (ascends_put below b old (record { room = enough; aligned = l.ensures.joined.aligned }) r.ensures.relists.chain.each
    (λ p. omega (arith, apart p)) (stands w) most up))
