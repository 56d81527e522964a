use Rattle.std.proofs.Common.{arith, ◌+◌, ◌*◌, length}
use Rattle.std.proofs.lemmas.List.FromFn.{fill_by_all}
use Rattle.h5_bytes.specs.Bytes.{number_at}
use Rattle.h5_chunks.proofs.offsets.read_offsets.Goals as goal

pub returns : goal.returns
returns c = fill_by_all (λ i. number_at c.args.key.now (8 + 8 * i) 8) c.loop-d.offsets (length c.args.offsets.now) 0 (omega arith) (λ k low. c.loop-d.invariant k (omega arith))
