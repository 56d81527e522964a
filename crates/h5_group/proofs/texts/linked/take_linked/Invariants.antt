use Rattle.std.proofs.Common.{take}
use Rattle.std.specs.List.{flat_map}
use Rattle.h5_heap.specs.Kept.{segment_in}
use Rattle.h5_group.specs.Nodes.Stands.{entries_at}
use Rattle.h5_group.specs.Texts.Linked.{linked_at, AreEntriesSound}
use Rattle.h5_group.specs.Texts.Taken.{TakesLinked}
use Rattle.h5_group.proofs.texts.linked.take_linked.Given as goal

abbrev pub invariant-loop-at : goal.invariant-loop-at
invariant-loop-at l = TakesLinked l.image.bytes l.initial.heap l.heap (flat_map (linked_at l.image.bytes) (take l.at-index l.symbol_nodes))
    × AreEntriesSound (segment_in l.image.bytes l.initial.heap) (flat_map (entries_at l.image.bytes) (take l.at-index l.symbol_nodes))
