use Rattle.std.proofs.Common.{◌≡◌, ◌*◌, ℤ, take, replicate}
use Rattle.h5_model.specs.Format.Fixed.{Fixed, bytes_of}
use Rattle.h5_model.specs.Format.Plain.{cells_bytes}
use Rattle.h5_file.proofs.selected.repeat_cell.Given as goal

-- the first cells have these bytes
abbrev pub invariant-loop-k : goal.invariant-loop-k
invariant-loop-k l = (t : Fixed) (v : ℤ) → l.cell ≡ bytes_of t v → take (l.k * l.size) l.room ≡ cells_bytes t (replicate l.k v)
