use Rattle.std.proofs.Common.{◌≡◌, ◌+◌, ◌++◌, ◌∙◌, add-one, arith, take, drop, set}
use Rattle.h5_repack.proofs.BlockLaws.ArrayParts.{size_step}
use Rattle.h5_repack.proofs.blocks.layout.read_chunk.Goals as goal

pub loop-k-preserved : goal.loop-k-preserved
loop-k-preserved c =
    let all = c.args.sizes.now in
    let k = c.loop-k.k in
    let more : take (k + 1) (set c.loop-k.chunk k c.size.result) ++ drop (k + 1) all ≡ all
    = rw add-one (size_step c.loop-k.chunk all k c.size.result (omega arith) (omega arith) c.size.ensures.size ∙ c.loop-k.invariant) in
    more
