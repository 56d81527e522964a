use Rattle.std.proofs.Common.{◌≡◌, ◌*◌, ◌++◌, ℤ, List, length, take}
use Rattle.h5_model.specs.Format.Plain.{cells_bytes}
use Rattle.h5_model.specs.Views.Shown.{selected_values}
use Rattle.h5_file.proofs.selected.gather.Given as goal

-- the first cells are written, and the others are left
abbrev pub invariant-loop-piece : goal.invariant-loop-piece
invariant-loop-piece l = record {
  values : List ℤ;
  parts : selected_values l.fn.array l.fn.slab ≡ values ++ l.piece-iterator.values;
  fixed : l.piece-iterator.fixed ≡ l.fn.array.fixed;
  fill : l.piece-iterator.fill ≡ l.fn.array.fill;
  place : l.at ≡ length values * l.fn.array.fixed.size;
  written : take l.at l.room ≡ cells_bytes l.fn.array.fixed values;
}
