use Rattle.std.proofs.Common.{take}
use Rattle.std.specs.List.{flat_map}
use Rattle.h5_heap.specs.Kept.{segment_in}
use Rattle.h5_group.specs.Nodes.Stands.{entries_at}
use Rattle.h5_group.specs.Texts.Linked.{AreEntriesSound}
use Rattle.h5_group.proofs.texts.names.check_names.Given as goal

abbrev pub invariant-loop-at : goal.invariant-loop-at
invariant-loop-at l = AreEntriesSound (segment_in l.image.bytes l.heap) (flat_map (entries_at l.image.bytes) (take l.at-index l.symbol_nodes))
