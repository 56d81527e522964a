use Rattle.h5_layout.proofs.KeyWritten.{key_written}
use Rattle.h5_layout.proofs.held.written_key.Goals as goal

pub returns : goal.returns
returns c sizes size long is = key_written c.args.bytes.now (λ i. (c.type_inv.bytes i).fits) sizes size long is
