use Rattle.std.proofs.Common.{◌≡◌, length, take}
use Rattle.h5_model.specs.Format.Chunks.{offsets_in}
use Rattle.h5_layout.proofs.trimmed.write_offsets.Given as goal

abbrev pub invariant-loop-d : goal.invariant-loop-d
invariant-loop-d l = take l.d l.offsets ≡ take l.d (offsets_in (length l.initial.offsets) l.key)
