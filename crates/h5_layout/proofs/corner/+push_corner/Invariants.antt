use Rattle.std.proofs.Common.{◌≡◌, ◌*◌, ◌++◌, length}
use Rattle.h5_bytes.specs.Tables.{table}
use Rattle.h5_model.specs.Format.Plain.{cells_bytes}
use Rattle.h5_model.specs.Tree.Places.{cells}
use Rattle.h5_layout.specs.Kept.{corner_value}
use Rattle.h5_layout.specs.Spans.{span_sizes, span_slices}
use Rattle.h5_layout.proofs.corner.+push_corner.Given as goal

abbrev pub decreases-push_corner : goal.decreases-push_corner
decreases-push_corner l = length l.spans.now

-- the slices so far
abbrev pub invariant-loop-i : goal.invariant-loop-i
invariant-loop-i l = l.out.items ≡ l.initial.out.items ++ cells_bytes l.fill.fixed
    (table (corner_value l.fill.fixed l.fill.fill (span_sizes l.spans) (span_slices l.spans) l.bytes) (l.i * cells (span_sizes l.inner)))
