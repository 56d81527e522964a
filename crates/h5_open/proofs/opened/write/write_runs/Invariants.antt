use Rattle.h5_model.specs.Tree.Objects.{Dataset}
use Rattle.h5_open.specs.Opened.Kept.{IsOpened}
use Rattle.h5_open.specs.Opened.State.{opened_state}
use Rattle.h5_open.specs.Written.{AreRunsStored}
use Rattle.h5_open.specs.WrittenRun.{AreItsPlaces}
use Rattle.h5_open.proofs.EachRun.{AreFirstWritten}
use Rattle.h5_open.proofs.opened.write.write_runs.Given as goal

-- the first runs are written, and where the cells stand is known still
abbrev pub invariant-loop-run : goal.invariant-loop-run
invariant-loop-run l = record {
  d : Dataset;
  are : AreRunsStored (opened_state l.initial.image l.index.objects.items) l.number l.fn.runs l.values d;
  first : AreFirstWritten (opened_state l.initial.image l.index.objects.items) l.number l.fn.runs l.values d are l.run-iterator l.left
      (opened_state l.image l.index.objects.items);
  opened : IsOpened l.image l.index.objects.items l.index.numbers;
  its : AreItsPlaces l.image l.index.objects.items l.number l.places;
}
