use Rattle.std.proofs.Common.{◌≡◌, ◌+◌, length, eqb}
use Rattle.std.specs.List.{list_any, slice_split}
use Rattle.std.specs.Option.{option_map_or}
use Rattle.h5_model.specs.Scripts.Lines.{is_empty_word}
use Rattle.h5_command.specs.Words.{parts_left}
use Rattle.h5_command.proofs.lines.has_empty_word.Given as goal

abbrev pub decreases-words : goal.decreases-words
decreases-words l = option_map_or (λ w. length w.now + 1) l.left 0

-- no word so far is empty
abbrev pub invariant-words : goal.invariant-words
invariant-words l = list_any is_empty_word (parts_left 32 l.left) ≡ list_any is_empty_word (slice_split (λ b. eqb b 32) l.fn.line)
