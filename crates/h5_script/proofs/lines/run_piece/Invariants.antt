use Rattle.std.proofs.Common.{◌≡◌, ℕ, ◌+◌, ◌≤◌, List, ◌++◌, length}
use Rattle.h5_script.specs.Pieces.{HasRunLines}
use Rattle.h5_script.proofs.lines.run_piece.Given as goal

-- the lines that stand whole in what was seen were run
abbrev pub invariant-loop-line : goal.invariant-loop-line
invariant-loop-line g l = record {
  seen : List ℕ;
  parts : seen ++ l.rest ≡ l.fn.held.items ++ l.fn.piece;
  run : HasRunLines seen l.held.items l.fn.session l.session (g.W.Write.contents l.fn.output) (g.W.Write.contents l.output) l.fn.answers.ran l.answers.ran;
  refused : l.answers.ran.refused + length l.rest ≤ l.fn.answers.ran.refused + length l.fn.piece;
  edits : l.answers.ran.edits + length l.rest ≤ l.fn.answers.ran.edits + length l.fn.piece;
}

abbrev pub decreases-loop-line : goal.decreases-loop-line
decreases-loop-line g l = length l.rest
