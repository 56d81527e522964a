use Rattle.std.proofs.Common.{◌≡◌, ◌-◌, length, drop}
use Rattle.h5_model.specs.Scripts.Lines.{unescaped_past}
use Rattle.h5_command.proofs.Lists.{behind}
use Rattle.h5_command.proofs.escapes.unescaped.Given as goal

abbrev pub decreases-bytes : goal.decreases-bytes
decreases-bytes l = length l.initial.word - l.at

-- the bytes so far, and what the rest of the word adds
abbrev pub invariant-bytes : goal.invariant-bytes
invariant-bytes l = behind l.bytes.items (unescaped_past 0 (drop l.at l.word)) ≡ unescaped_past 0 l.word
