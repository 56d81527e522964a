use Rattle.std.proofs.Common.{take}
use Rattle.h5_heap.specs.Kept.{segment_in}
use Rattle.h5_group.specs.Texts.Linked.{AreEntriesSound}
use Rattle.h5_group.proofs.texts.names.check_entries.Given as goal

abbrev pub invariant-loop-k : goal.invariant-loop-k
invariant-loop-k l = AreEntriesSound (segment_in l.image.bytes l.heap) (take l.k l.node)
