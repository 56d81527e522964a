use Rattle.std.proofs.Common.{arith}
use Rattle.h5_repack.proofs.BlockLaws.StoredChunks.{last_key, next_key}
use Rattle.h5_repack.proofs.blocks.chunks.key_behind.Goals as goal

pub returns-then-k-len : goal.returns-then-k-len
returns-then-k-len c part here = next_key c.args.held.now c.args.k c.key.result.bytes.now (omega (arith, c.if-k-len.true, c.len.ensures)) c.key.ensures part.0

pub returns-else-k-len : goal.returns-else-k-len
returns-else-k-len c part here =
    last_key c.args.held.now c.args.k c.args.last.now c.requires.below (omega (arith, c.if-k-len.false, c.len.ensures)) c.requires.last part here
