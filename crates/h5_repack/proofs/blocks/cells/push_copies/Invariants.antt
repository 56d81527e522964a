use Rattle.std.proofs.Common.{◌≡◌, ◌++◌}
use Rattle.h5_repack.specs.Blocks.Parts.{copies}
use Rattle.h5_repack.proofs.blocks.cells.push_copies.Given as goal

abbrev pub invariant-loop-copy : goal.invariant-loop-copy
invariant-loop-copy l = l.out.items ≡ l.initial.out.items ++ copies l._copy l.bytes
