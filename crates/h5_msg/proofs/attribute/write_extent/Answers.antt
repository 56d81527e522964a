use Rattle.std.proofs.Common.{length, ◌∙◌}
use Rattle.h5_msg.proofs.DataspaceLaws.{plain_alone}
use Rattle.h5_msg.proofs.attribute.write_extent.Goals as goal

pub returns : goal.returns
returns c = c.write_dataspace.ensures.written ∙ plain_alone c.args.sizes.now (length c.args.bytes.now) c.requires.room
