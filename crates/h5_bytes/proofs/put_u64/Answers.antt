use Rattle.std.proofs.Common.{refl}
use Rattle.h5_bytes.specs.Bytes.{little_bytes}
use Rattle.h5_bytes.proofs.PartLaws.{put_tail_is}
use Rattle.h5_bytes.proofs.put_u64.Goals as goal

pub returns : goal.returns
returns c = rw c.write_u64.ensures (put_tail_is c.args.at 8 c.args.bytes.now (little_bytes 8 c.args.v) refl c.requires)
