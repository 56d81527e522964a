-- The numbers by which calls answer: 0 where it is done, from 1 to 31 the refusals of edits, paths and selections, and others from 100 on.
use Rattle.std.specs.Prelude.{◌≡◌, ◌+◌, ℕ, Result, Ok, Err, MatchResult}
use Rattle.h5_model.specs.Edits.EditFaults.{fault_number}
use Rattle.h5_model.specs.Faults.OpenFaults.{cause_number}
use Rattle.h5_model.specs.Views.ViewFaults.{view_fault_number}
use Rattle.h5_model.specs.declared.open_fault.Cause.{Cause}
use Rattle.h5_model.specs.declared.open_fault.Cause.TheVariants as cause
use Rattle.h5_model.specs.declared.open_fault.OpenFault.{OpenFault}
use Rattle.h5_model.specs.declared.view_fault.ViewFault.{ViewFault}
use Rattle.h5_model.specs.declared.view_fault.ViewFault.TheVariants as fault
use Rattle.h5_script.specs.declared.fault.RunFault.{RunFault}
use Rattle.h5_script.specs.declared.fault.RunFault.TheVariants as run

abbrev pub view_status : ViewFault → ℕ
view_status fault.NoMemory = 31
view_status (fault.Path f) = fault_number f
view_status f = 200 + view_fault_number f

abbrev pub cause_status : Cause → ℕ
cause_status cause.NoMemory = 31
cause_status c = 300 + cause_number c

abbrev pub open_status : OpenFault → ℕ
open_status f = cause_status f.cause

abbrev pub run_status : RunFault → ℕ
run_status run.ScriptTooLong = 103
run_status f = 31

-- 0 for an answer of the library's, and its number for a refusal
abbrev pub status_of : {A E : Type 0} → (E → ℕ) → Result A E → ℕ
status_of number (Ok a) = 0
status_of number (Err e) = number e

-- the status is that of an answer of the library's of which this holds
pub record HasStatus {A E : Type 0} (number : E → ℕ) (done : A → Type 0) (refused : E → Type 0) (status : ℕ) : Type 0 where
  pub answer : Result A E
  pub status_is : status ≡ status_of number answer
  pub says : MatchResult answer done refused
