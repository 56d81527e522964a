use Rattle.std.proofs.Common.{◌≡◌, ◌-◌, length}
use Rattle.h5_model.specs.Tree.Objects.{Link, object_of}
use Rattle.h5_open.specs.Opened.Objects.{tree_of}
use Rattle.h5_open.proofs.LostTree.{IsGoneThrough}
use Rattle.h5_open.proofs.opened.losses.losses_of.Given as goal

-- the link was counted, and the links of the first so many objects
abbrev pub invariant-loop-number : goal.invariant-loop-number
invariant-loop-number l = (link : Link) → l.fn.object ≡ object_of link → IsGoneThrough (tree_of l.image.bytes l.index.objects.items) link l.lost l.done

abbrev pub decreases-loop-number : goal.decreases-loop-number
decreases-loop-number l = length l.index.objects.items - l.done
