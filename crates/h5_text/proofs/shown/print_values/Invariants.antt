use Rattle.std.proofs.Common.{◌≡◌, ℤ, List, ◌++◌, length}
use Rattle.h5_model.specs.Scripts.Answers.{stored_values}
use Rattle.h5_model.specs.Scripts.Text.{values_text}
use Rattle.h5_text.specs.Printed.{IsPrinted}
use Rattle.h5_text.proofs.shown.print_values.Given as goal

-- the first values were printed
abbrev pub invariant-loop-rest : goal.invariant-loop-rest
invariant-loop-rest g l = record {
  values : List ℤ;
  parts : stored_values l.fn.fixed l.fn.bytes ≡ values ++ stored_values l.fn.fixed l.rest;
  text : IsPrinted (g.W.Write.contents l.fn.output) (g.W.Write.contents l.output) l.fn.text.items l.text.items (values_text values);
}

abbrev pub decreases-loop-rest : goal.decreases-loop-rest
decreases-loop-rest g l = length l.rest
