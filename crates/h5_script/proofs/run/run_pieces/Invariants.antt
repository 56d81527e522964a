use Rattle.std.proofs.Common.{◌+◌, ◌≤◌}
use Rattle.h5_model.specs.Format.Limits.{most_script_bytes}
use Rattle.h5_script.specs.Pieces.{IsUnderway}
use Rattle.h5_script.proofs.run.run_pieces.Given as goal

-- the whole lines so far were run; each read has taken a byte at least from the room
abbrev pub invariant-loop-read : goal.invariant-loop-read
invariant-loop-read g l = record {
  under : IsUnderway l.fn.session l.session (g.R.Read.remaining l.fn.input) (g.R.Read.remaining l.input)
      (g.W.Write.contents l.fn.output) (g.W.Write.contents l.output) l.held.items l.room l.answers.ran;
  refused : l.answers.ran.refused + l.room ≤ most_script_bytes;
  edits : l.answers.ran.edits + l.room ≤ most_script_bytes;
  reads : l._read + l.room ≤ most_script_bytes;
}
