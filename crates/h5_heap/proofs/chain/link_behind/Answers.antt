use Rattle.std.proofs.Common.{◌≡◌, ◌∙◌, ℕ, List, ◌∷◌, ◌++◌, ◌^◌, ◌<◌, Option, length, ap, ap₂, refl, sym, arith, subst}
use Rattle.h5_bytes.specs.declared.Block.{Block}
use Rattle.h5_heap.specs.Chain.{IsChain, ListsAt, put_behind}
use Rattle.h5_heap.proofs.ChainLaws.{free_block_at, free_from_is}
use Rattle.h5_heap.proofs.RelistLaws.{room_of, with_block_long, linked_first, linked_list, relists_linked_first, relists_linked_behind}
use Rattle.h5_heap.proofs.OrderLaws.{put_behind_is}
use Rattle.h5_heap.proofs.chain.link_behind.Goals as goal
use Rattle.h5_heap.proofs.chain.link_behind.Goals.{In-Some}

there : (c : In-Some) → ListsAt c.args.segment.now c.args.first c.in-Some.place
there c = rw c.in-Some.is at c.requires.place

told : (c : In-Some) → IsChain c.args.segment.now c.args.first ((there c).front ++ free_block_at c.args.segment.now c.in-Some.place ∷ (there c).back)
told c = subst (IsChain c.args.segment.now c.args.first) (there c).split c.requires.chain

pub u64_at-next-requires : goal.u64_at-next-requires
u64_at-next-requires c =
    let w = (goal.at.u64_at-next-requires c).In-Some in
    omega (arith, room_of c.args.segment.now c.args.first (there w).front (there w).back (free_block_at c.args.segment.now c.in-Some.place) (told w))

pub put_u64-requires : goal.put_u64-requires
put_u64-requires c =
    let w = (goal.at.put_u64-requires c).In-Some in
    let at_low : c.args.block.len < 2 ^ 64 = grind (arith, c.requires.inside) in
    let long : length c.put_block.new.segment ≡ length c.args.segment.now = ap length c.put_block.ensures
    ∙ with_block_long c.args.segment.now c.args.block c.u64_at-next.result c.u64_at-next.type_inv at_low c.requires.free c.requires.inside in
    omega (arith, long, room_of c.args.segment.now c.args.first (there w).front (there w).back (free_block_at c.args.segment.now c.in-Some.place) (told w))

pub returns-in-Some : goal.returns-in-Some
returns-in-Some c =
    let w = (goal.at.returns-in-Some c).In-Some in
    let s = c.args.segment.now in
    let l = there w in
    let y = free_block_at s c.in-Some.place in
    let at_low : c.args.block.at < 2 ^ 64 = grind (arith, c.requires.inside) in
    let len_low : c.args.block.len < 2 ^ 64 = grind (arith, c.requires.inside) in
    let chain = linked_list s c.args.first c.args.block c.u64_at-next.result c.requires.chain c.u64_at-next.type_inv at_low len_low c.requires.free
    c.requires.inside c.requires.apart y l.front l.back l.split c.u64_at-next.ensures in
    let old = told w in
    rw (c.put_u64.ensures, c.put_block.ensures) (record {
      relists = relists_linked_behind s c.args.first c.args.block c.u64_at-next.result c.requires.chain c.u64_at-next.type_inv at_low len_low
          c.requires.free c.requires.inside c.requires.apart y l.front l.back l.split c.u64_at-next.ensures;
      listed = free_from_is _ c.args.first (l.front ++ y ∷ c.args.block ∷ l.back) chain
          ∙ sym (ap₂ (λ (o : Option ℕ) (bs : List Block). put_behind o c.args.block bs) c.in-Some.is l.split
          ∙ put_behind_is c.in-Some.place c.args.block y l.front l.back old.each old.apart refl);
    })

pub returns-in-None : goal.returns-in-None
returns-in-None c =
    let s = c.args.segment.now in
    let at_low : c.args.block.at < 2 ^ 64 = grind (arith, c.requires.inside) in
    let len_low : c.args.block.len < 2 ^ 64 = grind (arith, c.requires.inside) in
    let chain = linked_first s c.args.block c.args.first c.ranges.first.fits len_low c.requires.free c.requires.inside c.args.first _ c.requires.chain
    (λ p. omega (arith, c.requires.apart p)) refl in
    rw (c.put_block-in-None.ensures, c.in-None.is) (record {
      relists = relists_linked_first s c.args.first c.args.block c.args.first c.requires.chain
          c.ranges.first.fits at_low len_low c.requires.free c.requires.inside c.requires.apart refl;
      listed = free_from_is _ c.args.block.at _ chain;
    })
