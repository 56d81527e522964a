use Rattle.std.proofs.Common.{arith}
use Rattle.h5_repack.proofs.BlockLaws.ArrayParts.{length-header}
use Rattle.h5_repack.proofs.blocks.header.array_header_length.Goals as goal

pub returns-clause-exact : goal.returns-clause-exact
returns-clause-exact c cells count address room =
    omega (arith, c.messages_size.ensures.exact cells address room, length-header c.args.array.now cells c.args.others.now address count)
