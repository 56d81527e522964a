use Rattle.std.proofs.Common.{refl}
use Rattle.h5_bytes.specs.Bytes.{little_bytes}
use Rattle.h5_bytes.proofs.PartLaws.{put_tail_is}
use Rattle.h5_bytes.proofs.put_u32.Goals as goal

pub returns : goal.returns
returns c = rw c.write_u32.ensures (put_tail_is c.args.at 4 c.args.bytes.now (little_bytes 4 c.args.v) refl c.requires)
