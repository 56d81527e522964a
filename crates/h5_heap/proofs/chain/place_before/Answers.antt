use Rattle.std.proofs.Common.{◌≡◌, ◌∙◌, ◌∷◌, ◌++◌, ℕ, sym, ap, refl, List, [], arith}
use Rattle.h5_bytes.specs.Bytes.{number_at}
use Rattle.h5_bytes.specs.declared.Block.{Block}
use Rattle.h5_heap.specs.Chain.{HasChain, free_from}
use Rattle.h5_heap.proofs.ChainLaws.{step_at, fewer_at, stands_on, front_more, free_block_at}
use Rattle.h5_heap.proofs.AroundLaws.{last_new}
use Rattle.h5_heap.proofs.chain.place_before.Goals as goal

pub u64_at-next-requires : goal.u64_at-next-requires
u64_at-next-requires c =
    let going = (stands_on c.args.segment.now c.args.first c.args.at c.requires.chain c.requires.there).0 in
    let s = step_at c.args.segment.now c.args.first going c.requires.chain in
    omega (arith, s.within, s.free.room)

pub loop-next-init : goal.loop-next-init
loop-next-init c =
    let on = stands_on c.args.segment.now c.args.first c.args.at c.requires.chain c.requires.there in (
      c.requires.chain,
      on.0,
      c.u64_at-next.ensures,
      rw c.u64_at-next.ensures (on.1 c.requires.later),
      ([], refl),
    )

pub u64_at-next-requires-in-loop-next : goal.u64_at-next-requires-in-loop-next
u64_at-next-requires-in-loop-next c =
    let i = c.loop-next.invariant in
    let s = step_at c.args.segment.now c.loop-next.place i.1 i.0 in
    let chain : HasChain c.args.segment.now c.loop-next.next = rw (← i.2) at s.more in
    let on = stands_on c.args.segment.now c.loop-next.next c.args.at chain i.3 in
    let t = step_at c.args.segment.now c.loop-next.next on.0 chain in
    omega (arith, t.within, t.free.room)

pub loop-next-smaller : goal.loop-next-smaller
loop-next-smaller c =
    let i = c.loop-next.invariant in
    let s = step_at c.args.segment.now c.loop-next.place i.1 i.0 in
    let chain : HasChain c.args.segment.now c.loop-next.next = rw (← i.2) at s.more in
    let on = stands_on c.args.segment.now c.loop-next.next c.args.at chain i.3 in
    rw c.u64_at-next-in-loop-next.ensures (fewer_at c.args.segment.now c.loop-next.next on.0 chain)

pub loop-next-preserved : goal.loop-next-preserved
loop-next-preserved c =
    let i = c.loop-next.invariant in
    let segment = c.args.segment.now in
    let s = step_at segment c.loop-next.place i.1 i.0 in
    let chain : HasChain segment c.loop-next.next = rw (← i.2) at s.more in
    let on = stands_on segment c.loop-next.next c.args.at chain i.3 in
    let more = front_more segment c.args.first c.loop-next.place i.4.0 i.1 i.0 i.4.1 in (
      chain,
      on.0,
      c.u64_at-next-in-loop-next.ensures,
      rw c.u64_at-next-in-loop-next.ensures (on.1 c.loop-next-test.true),
      (i.4.0 ++ free_block_at segment c.loop-next.place ∷ [], rw (← i.2) at more),
    )

pub returns : goal.returns
returns c =
    let i = c.loop-next.invariant in
    let segment = c.args.segment.now in
    let s = step_at segment c.loop-next.place i.1 i.0 in
    let at : number_at segment c.loop-next.place 8 ≡ c.args.at = sym i.2 ∙ c.loop-next-test.false in
    let on = stands_on segment (number_at segment c.loop-next.place 8) c.args.at s.more (rw i.2 at i.3) in
    let t = step_at segment (number_at segment c.loop-next.place 8) on.0 s.more in
    let two : free_from segment (number_at segment c.loop-next.place 8) ≡ free_block_at segment c.args.at ∷ free_from segment (number_at segment (number_at segment c.loop-next.place 8) 8)
    = t.split ∙ ap (λ (m : ℕ). free_block_at segment m ∷ free_from segment (number_at segment (number_at segment c.loop-next.place 8) 8)) at in
    record {
      front = i.4.0 ++ free_block_at segment c.loop-next.place ∷ [];
      back = free_from segment (number_at segment (number_at segment c.loop-next.place 8) 8);
      split = front_more segment c.args.first c.loop-next.place i.4.0 i.1 i.0 i.4.1
          ∙ ap (λ (bs : List Block). (i.4.0 ++ free_block_at segment c.loop-next.place ∷ []) ++ bs) two;
      before = last_new i.4.0 (free_block_at segment c.loop-next.place);
    }
