use Rattle.std.proofs.Common.{◌≡◌, ℕ, ◌+◌, ℤ, List, Option, ◌++◌, length}
use Rattle.std.specs.BTreeMap.{BTreeMap}
use Rattle.h5_open.specs.declared.opened.object.OpenedObject.{OpenedObject}
use Rattle.h5_open.specs.WrittenRun.{IsRunMade, IsRunReady}
use Rattle.h5_open.proofs.opened.write.write_run.Given as goal

-- the first values are written, and where the cells stand is known still
abbrev pub invariant-loop-left : goal.invariant-loop-left
invariant-loop-left l = record {
  first : List ℤ;
  whole : l.values ≡ first ++ l.left;
  behind : l.next ≡ l.place + length first;
  made : (slots : List (Option OpenedObject)) (numbers : BTreeMap ℕ ℕ) (number : ℕ)
      → IsRunReady l.initial.image slots numbers number l.initial.places l.place l.values
      → IsRunMade l.initial.image slots numbers number l.place first l.image l.places;
}

abbrev pub decreases-loop-left : goal.decreases-loop-left
decreases-loop-left l = length l.left
