use Rattle.std.proofs.Common.{◌≡◌, ◌+◌, [], length}
use Rattle.std.specs.Prelude.{◌==◌}
use Rattle.std.specs.List.{slice_split}
use Rattle.std.specs.Option.{option_map_or}
use Rattle.h5_model.specs.Scripts.Lines.{all_read, list_from}
use Rattle.h5_command.proofs.Lists.{behind}
use Rattle.h5_command.proofs.words.list_from.Given as goal

abbrev pub decreases-items : goal.decreases-items
decreases-items g l = option_map_or (λ w. length w.now + 1) l.left 0

-- the items so far, and what the rest of the word adds
abbrev pub invariant-items : goal.invariant-items
invariant-items g l =
    behind l.items.items (all_read g.T.Item.read (option_map_or (λ w. slice_split (λ c. c == 44) w.now) l.left [])) ≡ list_from g.T.Item.read l.fn.word
