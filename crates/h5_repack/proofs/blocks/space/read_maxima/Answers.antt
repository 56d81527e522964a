use Rattle.std.proofs.Common.{◌≡◌, ◌+◌, ◌++◌, ◌∙◌, add-one, arith, take, drop, set}
use Rattle.h5_repack.proofs.BlockLaws.ArrayParts.{maxima_step}
use Rattle.h5_repack.proofs.blocks.space.read_maxima.Goals as goal

pub loop-k-preserved : goal.loop-k-preserved
loop-k-preserved c =
    let all = c.args.array.now.maxima in
    let k = c.loop-k.k in
    let more : take (k + 1) (set c.loop-k.maxima k c.maximum.result) ++ drop (k + 1) all ≡ all
    = rw add-one (maxima_step c.loop-k.maxima all k c.maximum.result (omega arith) c.maximum.ensures ∙ c.loop-k.invariant) in
    more
