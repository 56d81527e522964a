use Rattle.std.proofs.Common.{◌≡◌, ◌-◌, take, length}
use Rattle.std.specs.List.{AllByRecursion}
use Rattle.h5_group.specs.Exact.{AreFilledUnder}
use Rattle.h5_group.proofs.exact.+are_filled.Given as goal

abbrev pub decreases-are_filled : goal.decreases-are_filled
decreases-are_filled l = l.height

abbrev pub invariant-loop-i : goal.invariant-loop-i
invariant-loop-i l = record {
  end : l.i-end ≡ length l.node.children;
  filled : AllByRecursion (AreFilledUnder l.image.bytes (l.height - 1)) (take l.i l.node.children);
}
