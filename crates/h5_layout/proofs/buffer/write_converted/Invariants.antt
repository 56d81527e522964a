use Rattle.std.proofs.Common.{◌≡◌, ◌*◌, ◌++◌, take, drop}
use Rattle.h5_model.specs.Format.Plain.{cells_bytes}
use Rattle.h5_model.specs.Scripts.Answers.{stored_values}
use Rattle.h5_layout.proofs.buffer.write_converted.Given as goal

-- the values so far, and the bytes behind them as they were
abbrev pub invariant-loop-k : goal.invariant-loop-k
invariant-loop-k l = l.to ≡ cells_bytes l.fixed (take l.k (stored_values l.own l.bytes)) ++ drop (l.k * l.width) l.initial.to
