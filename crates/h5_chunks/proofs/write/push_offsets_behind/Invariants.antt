use Rattle.std.proofs.Common.{◌≡◌, ◌++◌, length, take}
use Rattle.h5_model.specs.Format.Bodies.{words}
use Rattle.h5_model.specs.Format.Chunks.{offsets_in}
use Rattle.h5_chunks.specs.Keys.{index_from}
use Rattle.h5_chunks.proofs.write.push_offsets_behind.Given as goal

abbrev pub invariant-loop-d : goal.invariant-loop-d
invariant-loop-d l = l.out.items ≡ l.initial.out.items ++ words (take l.d (index_from (offsets_in (length l.sizes) l.key) l.sizes))
