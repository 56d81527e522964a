use Rattle.std.proofs.Common.{◌≡◌, ◌+◌, ◌%◌, ℤ, List, ◌++◌, length}
use Rattle.h5_text.specs.Printed.{IsPrinted}
use Rattle.h5_text.specs.Rows.{cells_from}
use Rattle.h5_dump.proofs.cells.print_cells.Given as goal

-- the first cells were printed, and the others are left
abbrev pub invariant-loop-piece : goal.invariant-loop-piece
invariant-loop-piece g l = record {
  values : List ℤ;
  parts : l.array.cells ≡ values ++ l.piece-iterator.values;
  fixed : l.piece-iterator.fixed ≡ l.array.fixed;
  fill : l.piece-iterator.fill ≡ l.array.fill;
  text : IsPrinted (g.W.Write.contents l.fn.output) (g.W.Write.contents l.output) l.fn.text.items l.text.items (cells_from l.initial.rows.width l.initial.rows.column values);
  width : l.rows.width ≡ l.initial.rows.width;
  column : l.rows.column ≡ (l.initial.rows.column + length values) % l.initial.rows.width;
}
