use Rattle.std.proofs.Common.{◌≡◌, ◌*◌, ◌++◌, replicate}
use Rattle.h5_model.specs.Format.Plain.{cells_bytes}
use Rattle.h5_layout.proofs.fill.FillTile.push.Given as goal

-- the tiles so far
abbrev pub invariant-loop-tile : goal.invariant-loop-tile
invariant-loop-tile l = l.out.items ≡ l.initial.out.items ++ cells_bytes l.self.fixed (replicate (l._tile * 64) l.self.fill)
