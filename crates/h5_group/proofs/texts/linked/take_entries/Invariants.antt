use Rattle.std.proofs.Common.{take}
use Rattle.std.specs.List.{flat_map}
use Rattle.h5_heap.specs.Kept.{segment_in}
use Rattle.h5_group.specs.Texts.Linked.{linked_by, AreEntriesSound}
use Rattle.h5_group.specs.Texts.Taken.{TakesLinked}
use Rattle.h5_group.proofs.texts.linked.take_entries.Given as goal

abbrev pub invariant-loop-k : goal.invariant-loop-k
invariant-loop-k l = TakesLinked l.image.bytes l.initial.heap l.heap (flat_map linked_by (take l.k l.node))
    × AreEntriesSound (segment_in l.image.bytes l.initial.heap) (take l.k l.node)
