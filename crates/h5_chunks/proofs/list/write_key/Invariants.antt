use Rattle.h5_chunks.proofs.KeyFields.{HasOffsets}
use Rattle.h5_chunks.proofs.list.write_key.Given as goal

abbrev pub invariant-loop-d : goal.invariant-loop-d
invariant-loop-d l = HasOffsets l.bytes l.offsets l.key l.d
