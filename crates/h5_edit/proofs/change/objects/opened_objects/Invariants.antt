use Rattle.h5_edit.proofs.ChangedLaws.StoredSlots.{AreStoredBelow}
use Rattle.h5_edit.proofs.ChangedLaws.WrittenSlots.{AreWritten}
use Rattle.h5_edit.proofs.change.objects.opened_objects.Given as goal

abbrev pub invariant-loop-number : goal.invariant-loop-number
invariant-loop-number l = record {
  objects : AreWritten l.opened.tree l.objects.items l.number;
  chunks : AreStoredBelow l.opened l.objects.items l.number;
}
