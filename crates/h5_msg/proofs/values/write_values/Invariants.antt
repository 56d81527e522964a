use Rattle.std.proofs.Common.{◌≡◌, ◌*◌, ◌++◌, take, drop}
use Rattle.h5_model.specs.Format.Plain.{cells_bytes}
use Rattle.h5_msg.proofs.values.write_values.Given as goal

-- the values so far, and the bytes behind them as they were
abbrev pub invariant-loop-k : goal.invariant-loop-k
invariant-loop-k l = l.bytes ≡ cells_bytes l.fixed (take l.k l.values) ++ drop (l.k * l.size) l.initial.bytes
