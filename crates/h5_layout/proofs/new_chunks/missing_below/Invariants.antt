use Rattle.std.proofs.Common.{◌≡◌, ◌++◌, List, length, map}
use Rattle.std.specs.List.{AllByRecursion}
use Rattle.h5_shape.specs.PartCells.{part_corner}
use Rattle.h5_shape.specs.declared.parts.Span.{Span}
use Rattle.h5_layout.specs.Kept.{chunks_below_root}
use Rattle.h5_layout.specs.Missing.{corners_missing}
use Rattle.h5_layout.proofs.new_chunks.missing_below.Given as goal

abbrev pub invariant-loop-parts : goal.invariant-loop-parts
invariant-loop-parts l = record {
  rank : l.missing.rank ≡ length l.shape.sizes;
  bytes : l.missing.bytes ≡ l.shape.bytes;
  offsets : l.missing.offsets ++ corners_missing (chunks_below_root l.image.bytes l.shape l.root) (map part_corner l.parts)
      ≡ corners_missing (chunks_below_root l.image.bytes l.shape l.root) (map part_corner l.initial.parts);
  ranks : AllByRecursion (λ (part : List Span). length part ≡ l.rank) l.parts;
}

abbrev pub decreases-loop-parts : goal.decreases-loop-parts
decreases-loop-parts l = length l.parts
