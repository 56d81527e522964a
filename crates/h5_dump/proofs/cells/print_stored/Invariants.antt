use Rattle.std.proofs.Common.{◌≡◌, ◌+◌, ◌%◌, ℤ, List, ◌++◌, length}
use Rattle.h5_model.specs.Scripts.Answers.{stored_values}
use Rattle.h5_text.specs.Printed.{IsPrinted}
use Rattle.h5_text.specs.Rows.{cells_from}
use Rattle.h5_dump.proofs.cells.print_stored.Given as goal

-- the first cells were printed
abbrev pub invariant-loop-rest : goal.invariant-loop-rest
invariant-loop-rest g l = record {
  values : List ℤ;
  parts : stored_values l.fn.fixed l.fn.bytes ≡ values ++ stored_values l.fn.fixed l.rest;
  text : IsPrinted (g.W.Write.contents l.fn.output) (g.W.Write.contents l.output) l.fn.text.items l.text.items (cells_from l.fn.rows.width l.fn.rows.column values);
  width : l.rows.width ≡ l.fn.rows.width;
  column : l.rows.column ≡ (l.fn.rows.column + length values) % l.fn.rows.width;
}

abbrev pub decreases-loop-rest : goal.decreases-loop-rest
decreases-loop-rest g l = length l.rest
