use Rattle.std.proofs.Common.{◌≡◌, ◌++◌}
use Rattle.h5_c.specs.Asked.{names_with_ends}
use Rattle.h5_c.proofs.ask.ended_links.Given as goal

-- the names so far, and those that are left
abbrev pub invariant-loop-name : goal.invariant-loop-name
invariant-loop-name l = l.text.items ++ names_with_ends l.name-iterator ≡ names_with_ends l.initial.name-iterator
