use Rattle.std.proofs.Common.{◌≡◌, ℕ, ◌*◌, ◌<◌, ◌++◌, get_or, take, drop}
use Rattle.std.specs.List.{flat_map}
use Rattle.h5_snod.specs.Written.{IsSmall, new_bytes}
use Rattle.h5_snod.proofs.WrittenLaws.{no_symbol}
use Rattle.h5_snod.proofs.write.write_entries.Given as goal

-- the entries so far, and the bytes behind them as they were
abbrev pub invariant-loop-k : goal.invariant-loop-k
invariant-loop-k l = (l.bytes ≡ flat_map new_bytes (take l.k l.symbols) ++ drop (40 * l.k) l.initial.bytes)
    × ((j : ℕ) → j < l.k → IsSmall (get_or l.symbols j no_symbol))
