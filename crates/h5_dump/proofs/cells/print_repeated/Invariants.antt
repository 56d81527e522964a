use Rattle.std.proofs.Common.{◌≡◌, ◌+◌, ◌%◌, ℤ, List, ◌++◌, length, replicate}
use Rattle.h5_text.specs.Printed.{IsPrinted}
use Rattle.h5_text.specs.Rows.{cells_from}
use Rattle.h5_dump.proofs.cells.print_repeated.Given as goal

-- the first cells were printed, and so many are left
abbrev pub invariant-loop-left : goal.invariant-loop-left
invariant-loop-left g l = record {
  values : List ℤ;
  parts : replicate l.fn.count l.value ≡ values ++ replicate l.left l.value;
  text : IsPrinted (g.W.Write.contents l.fn.output) (g.W.Write.contents l.output) l.fn.text.items l.text.items (cells_from l.fn.rows.width l.fn.rows.column values);
  width : l.rows.width ≡ l.fn.rows.width;
  column : l.rows.column ≡ (l.fn.rows.column + length values) % l.fn.rows.width;
}

abbrev pub decreases-loop-left : goal.decreases-loop-left
decreases-loop-left g l = l.left
