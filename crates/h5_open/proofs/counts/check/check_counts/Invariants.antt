use Rattle.std.proofs.Common.{◌≡◌, ◌<◌, ℕ, Some, get_or}
use Rattle.std.specs.Prelude.{slice_get}
use Rattle.h5_model.specs.Format.Messages.{prefix_at, reference_count}
use Rattle.h5_open.specs.declared.opened.object.OpenedObject.{OpenedObject}
use Rattle.h5_open.specs.Opened.Objects.{objects_of}
use Rattle.h5_open.proofs.counts.check.check_counts.Given as goal

-- the objects so far are right
abbrev pub invariant-loop-number : goal.invariant-loop-number
invariant-loop-number l = (k : ℕ) (o : OpenedObject) → k < l.number → slice_get (objects_of l.tally.index.objects.items) k ≡ Some o
    → reference_count (prefix_at l.image.bytes o.messages.header) ≡ get_or l.tally.counts.items k 0
