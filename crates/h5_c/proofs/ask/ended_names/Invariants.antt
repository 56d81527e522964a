use Rattle.std.proofs.Common.{◌≡◌, map, take}
use Rattle.h5_c.specs.Asked.{names_with_ends}
use Rattle.h5_c.proofs.ask.ended_names.Given as goal

-- the names so far
abbrev pub invariant-loop-name : goal.invariant-loop-name
invariant-loop-name l = l.text.items ≡ names_with_ends (map (λ name. name.now) (take l.name-index l.names))
