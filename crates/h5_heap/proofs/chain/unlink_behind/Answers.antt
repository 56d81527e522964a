use Rattle.std.proofs.Common.{◌≡◌, ℕ, List, ◌∷◌, ◌++◌, Option, sym, ◌∙◌, ap₂, arith, subst, refl}
use Rattle.std.specs.Option.{IfSome}
use Rattle.h5_bytes.specs.Bytes.{with_field}
use Rattle.h5_bytes.specs.declared.Block.{Block}
use Rattle.h5_heap.specs.Chain.{IsChain, ListsAt, put_behind}
use Rattle.h5_heap.proofs.ChainLaws.{stands_on, room_at, step_at, free_block_at, free_from_is, has_chain}
use Rattle.h5_heap.proofs.RelistLaws.{room_of, relists_unlinked, relists_first, unlinked}
use Rattle.h5_heap.proofs.OrderLaws.{put_behind_is, lists_at}
use Rattle.h5_heap.proofs.AroundLaws.{LeadsTo, led_behind, led_first, led_stands}
use Rattle.h5_heap.proofs.chain.unlink_behind.Goals as goal
use Rattle.h5_heap.proofs.chain.unlink_behind.Goals.{In-Some}

pub u64_at-next-requires : goal.u64_at-next-requires
u64_at-next-requires c =
    let there = led_stands _ c.args.place (free_block_at c.args.segment.now c.args.at) c.requires.led in
    omega (arith, room_at c.args.segment.now c.args.first c.args.at c.requires.chain there)

led : (c : In-Some) → LeadsTo c.args.segment.now c.args.first c.in-Some.place (free_block_at c.args.segment.now c.args.at)
led c = led_behind c.args.segment.now c.args.first c.in-Some.place (free_block_at c.args.segment.now c.args.at) c.requires.chain (rw c.in-Some.is at c.requires.led)

told : (c : In-Some) → IsChain c.args.segment.now c.args.first
    ((led c).front ++ free_block_at c.args.segment.now c.in-Some.place ∷ free_block_at c.args.segment.now c.args.at ∷ (led c).back)
told c = subst (IsChain c.args.segment.now c.args.first) (led c).split c.requires.chain

pub put_u64-requires : goal.put_u64-requires
put_u64-requires c =
    let w = (goal.at.put_u64-requires c).In-Some in
    omega (arith, room_of c.args.segment.now c.args.first (led w).front _ _ (told w))

pub returns-in-Some : goal.returns-in-Some
returns-in-Some c =
    let w = (goal.at.returns-in-Some c).In-Some in
    let s = c.args.segment.now in
    let y = free_block_at s c.in-Some.place in
    let b = free_block_at s c.args.at in
    let l = led w in
    let chain = unlinked s c.args.first l.front l.back y b c.u64_at-next.result (told w) c.u64_at-next.type_inv c.u64_at-next.ensures in
    let list = free_from_is _ c.args.first (l.front ++ y ∷ l.back) chain in
    rw c.put_u64.ensures (record {
      relists = relists_unlinked s c.args.first l.front l.back y b c.u64_at-next.result (told w) c.u64_at-next.type_inv c.u64_at-next.ensures;
      listed = l.split ∙ sym (ap₂ (λ (o : Option ℕ) (bs : List Block). put_behind o b bs) c.in-Some.is list
          ∙ put_behind_is c.in-Some.place b y l.front l.back chain.each chain.apart refl);
      still = subst (λ (o : Option ℕ). IfSome o (λ p. ListsAt (with_field s y.at 8 c.u64_at-next.result) c.args.first p)) (sym c.in-Some.is)
          (lists_at _ c.args.first l.front l.back y (has_chain _ c.args.first (l.front ++ y ∷ l.back) chain) list);
    })

pub returns-in-None : goal.returns-in-None
returns-in-None c =
    let s = c.args.segment.now in
    let b = free_block_at s c.args.at in
    let same : c.args.first ≡ c.args.at = led_first s c.args.first b c.requires.chain (rw c.in-None.is at c.requires.led) in
    let going = (stands_on s c.args.first c.args.at c.requires.chain (led_stands _ c.args.place b c.requires.led)).0 in
    rw (c.u64_at-next.ensures, ← same, c.in-None.is) (record {
      relists = relists_first s c.args.first going c.requires.chain;
      listed = (step_at s c.args.first going c.requires.chain).split;
      still = tt;
    })
