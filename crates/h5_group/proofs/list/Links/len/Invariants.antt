use Rattle.std.proofs.Common.{◌≡◌, ◌+◌, drop, length, take}
use Rattle.h5_model.specs.Faults.TreeFaults.{all_entries}
use Rattle.h5_group.specs.LinksLeft.{entries_under_way}
use Rattle.h5_group.proofs.list.Links.len.Given as goal

abbrev pub invariant-loop-at : goal.invariant-loop-at
invariant-loop-at l =
    l.count ≡ length (drop l.self-inside.place (entries_under_way l.self-inside.node)) + length (all_entries l.self-inside.image.now.bytes (take l.at-index l.at-items))
