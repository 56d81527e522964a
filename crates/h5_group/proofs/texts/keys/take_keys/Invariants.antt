use Rattle.std.proofs.Common.{take}
use Rattle.std.specs.List.{flat_map}
use Rattle.h5_group.specs.Nodes.Stands.{keys_at}
use Rattle.h5_group.specs.Texts.Taken.{NamesKeys}
use Rattle.h5_group.proofs.texts.keys.take_keys.Given as goal

abbrev pub invariant-loop-at : goal.invariant-loop-at
invariant-loop-at l = NamesKeys l.image.bytes l.initial.heap l.heap (flat_map (keys_at l.image.bytes) (take l.at-index l.nodes))
