use Rattle.std.proofs.Common.{◌≡◌, ◌+◌, ◌*◌, ◌<◌, ◌∙◌, sym, ap, arith, length}
use Rattle.h5_repack.proofs.BlockLaws.StoredChunks.{child_step, chunks_low, place_step}
use Rattle.h5_repack.proofs.blocks.chunks.children_of.Goals as goal

pub overflow_add-place : goal.overflow_add-place
overflow_add-place c =
    let h = c.args.held.now in
    let below : c.loop-k.k < length h.parts = rw c.len-k-end.ensures at c.loop-k-test.true in
    let low = chunks_low c.loop-k.k c.args.size (omega (arith, below, c.requires.few)) c.requires.small in
    let place : c.loop-k.place ≡ c.args.at + c.loop-k.k * c.args.size
    = c.loop-k.invariant.place ∙ ap (λ n. c.args.at + c.loop-k.k * n) (sym c.requires.size) in
    omega (arith, low, place, c.requires.low, c.requires.small)

pub loop-k-preserved : goal.loop-k-preserved
loop-k-preserved c =
    let h = c.args.held.now in
    let below : c.loop-k.k < length h.parts = rw c.len-k-end.ensures at c.loop-k-test.true in record {
      place = place_step c.args.at c.loop-k.place c.loop-k.k c.args.size _ c.requires.size c.loop-k.invariant.place;
      children = child_step h c.loop-k.k c.loop-k.place c.args.size c.loop-k.children.items c.push.new.self.items _ below c.requires.size
          c.in_ok-push.ensures.items c.key_behind.ensures ∙ c.loop-k.invariant.children;
    }
