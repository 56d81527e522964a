use Rattle.std.proofs.Common.{◌≡◌, ◌*◌, ◌++◌, drop, length}
use Rattle.h5_bytes.specs.Tables.{table}
use Rattle.h5_model.specs.Format.Plain.{cells_bytes}
use Rattle.h5_model.specs.Tree.Places.{cells}
use Rattle.h5_layout.specs.Kept.{corner_value}
use Rattle.h5_layout.specs.Spans.{span_sizes, span_slices}
use Rattle.h5_layout.proofs.corner.+fill_corner.Given as goal

abbrev pub decreases-fill_corner : goal.decreases-fill_corner
decreases-fill_corner l = length l.spans.now

-- the slices so far, and the bytes that stood behind them
abbrev pub invariant-loop-i : goal.invariant-loop-i
invariant-loop-i l = l.bytes ≡ cells_bytes l.fixed
    (table (corner_value l.fixed l.fill (span_sizes l.spans) (span_slices l.spans) l.initial.bytes) (l.i * cells (span_sizes l.inner)))
    ++ drop (l.i * l.slice) l.initial.bytes
