use Rattle.std.proofs.Common.{◌≡◌, take, true}
use Rattle.std.specs.List.{list_all}
use Rattle.h5_model.specs.Format.Fixed.{fits}
use Rattle.h5_model.specs.Scripts.Answers.{stored_values}
use Rattle.h5_layout.proofs.buffer.are_cells_of_type.Given as goal

-- the values so far are of the type
abbrev pub invariant-loop-k : goal.invariant-loop-k
invariant-loop-k l = list_all (fits l.fixed) (take l.k (stored_values l.own l.bytes)) ≡ true
