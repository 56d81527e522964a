use Rattle.std.proofs.Common.{map, take}
use Rattle.h5_model.specs.Format.Links.{offset_in}
use Rattle.h5_group.specs.Texts.Taken.{NamesKeys}
use Rattle.h5_group.proofs.texts.keys.take_node.Given as goal

abbrev pub invariant-loop-i : goal.invariant-loop-i
invariant-loop-i l = NamesKeys l.image.bytes l.initial.heap l.heap (take l.i (map offset_in l.node.keys))
