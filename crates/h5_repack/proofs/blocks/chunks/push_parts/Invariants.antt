use Rattle.std.proofs.Common.{◌≡◌, ◌++◌, drop}
use Rattle.h5_repack.specs.Blocks.StoredChunks.{part_bytes}
use Rattle.std.specs.List.{flat_map}
use Rattle.h5_repack.specs.Blocks.StoredChunks.{parts_bytes}
use Rattle.h5_repack.proofs.blocks.chunks.push_parts.Given as goal

-- the chunks so far, with what is left
abbrev pub invariant-loop-k : goal.invariant-loop-k
invariant-loop-k l = l.out.items ++ flat_map (part_bytes l.held.fixed) (drop l.k l.held.parts) ≡ l.initial.out.items ++ parts_bytes l.held
