use Rattle.h5_repack.proofs.ObjectLaws.Counting.{AreCountedTo}
use Rattle.h5_repack.proofs.objects.counts.count_links.Given as goal

-- the links of the objects so far
abbrev pub invariant-loop-object : goal.invariant-loop-object
invariant-loop-object l = AreCountedTo l.objects l.object-index l.counts.items
