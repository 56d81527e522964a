use Rattle.std.proofs.Common.{◌∙◌}
use Rattle.h5_repack.proofs.BlockLaws.StoredChunks.{part_step}
use Rattle.h5_repack.proofs.blocks.chunks.push_parts.Goals as goal

pub loop-k-preserved : goal.loop-k-preserved
loop-k-preserved c =
    part_step c.args.held.now c.loop-k.k c.loop-k.out.items c.push_chunk.new.out.items (rw c.len-k-end.ensures at c.loop-k-test.true) c.in_ok-push_chunk.ensures ∙ c.loop-k.invariant
