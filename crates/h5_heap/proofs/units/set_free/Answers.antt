use Rattle.std.proofs.Common.{◌+◌, ◌≤◌, take, get_or, arith}
use Rattle.std.proofs.lemmas.List.{take_more}
use Rattle.h5_bytes.specs.Blocks.{block}
use Rattle.h5_bytes.specs.declared.Block.{Block}
use Rattle.h5_model.specs.Format.Heap.{IsFree}
use Rattle.h5_space.proofs.AddressLaws.{all_at}
use Rattle.h5_heap.proofs.UnitLaws.{fresh_more}
use Rattle.h5_heap.proofs.units.set_free.Goals as goal

pub overflow_add-block : goal.overflow_add-block
overflow_add-block c =
    let (end, small, long, inside) = c.requires.inside in
    let ends = all_at (λ (b : Block). b.at + b.len ≤ end) c.args.free.now c.loop-block.block-index (block 0 0) inside c.loop-block-test.true in
    omega (arith, ends, small)

pub loop-block-preserved : goal.loop-block-preserved
loop-block-preserved c =
    let free = c.args.free.now in
    let i = c.loop-block.block-index in
    let is = all_at IsFree free i (block 0 0) c.requires.aligned c.loop-block-test.true in
    record {
      long = omega (arith, c.fill.ensures.long, c.loop-block.invariant.long);
      fresh = λ k. rw (take_more free i (block 0 0) c.loop-block-test.true)
          (fresh_more c.loop-block.states c.fill.new.states (take i free) (get_or free i (block 0 0)) is c.loop-block.invariant.fresh (rw c.div_ceil-end.ensures at c.fill.ensures) k);
    }
