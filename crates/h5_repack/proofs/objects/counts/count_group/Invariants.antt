use Rattle.std.proofs.Common.{take}
use Rattle.h5_repack.specs.Objects.Targets.{targets}
use Rattle.h5_repack.proofs.ObjectLaws.Counting.{AreCounted}
use Rattle.h5_repack.proofs.objects.counts.count_group.Given as goal

-- the links so far
abbrev pub invariant-loop-link : goal.invariant-loop-link
invariant-loop-link l = AreCounted l.fn.counts l.counts (targets (take l.link-index l.links))
