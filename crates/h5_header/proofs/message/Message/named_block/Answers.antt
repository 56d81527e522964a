use Rattle.std.proofs.Common.{sym}
use Rattle.h5_header.proofs.MessageLaws.{continuation-is}
use Rattle.h5_header.proofs.message.Message.named_block.Goals as goal

pub returns : goal.returns
returns c = rw (c.u64_at.ensures, c.u64_at-2.ensures) (sym (continuation-is c.args.image.now c.args.self c.if-self-ne-CONTINUATION.false (c.requires.continued c.if-self-ne-CONTINUATION.false) c.requires.inside))
