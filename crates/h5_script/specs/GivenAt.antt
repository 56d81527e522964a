-- What is given to the lines of a script: what the rules of the tree leave open.
use Rattle.std.specs.Prelude.{◌≡◌, ℕ, ◌≤◌, Some, None}
use Rattle.h5_model.specs.Format.Limits.{most_bytes}
use Rattle.h5_model.specs.Scripts.Lines.{Command, Change, OpenView, ListAll, Dump, Repack}
use Rattle.h5_model.specs.Scripts.Answers.{Given}
use Rattle.h5_model.specs.declared.edit_fault.EditFault.TheVariants as fault
use Rattle.h5_dump.specs.Opened.State.{FileState}
use Rattle.h5_dump.specs.Carried.{IsGivenFor}
use Rattle.h5_dump.specs.Repacked.{HasLengthAnew, IsRepackRefused}

-- nothing is given, or that memory was refused
abbrev pub IsMemory : Given → Type 0
IsMemory None = Unit {0}
IsMemory (Some fault.NoMemory) = Unit {0}
IsMemory _ = ⊥

-- nothing where the image that is written anew has at most 2^31 bytes, else why it is not written
abbrev pub IsGivenToRepack : FileState → Given → Type 0
IsGivenToRepack f None = (bytes : ℕ) × HasLengthAnew f bytes × (bytes ≤ most_bytes)
IsGivenToRepack f (Some fault) = IsRepackRefused f fault

-- what may be given to a line that is answered in this file: to an edit and to `repack` what the file decides, to `view`, `ls` and `dump`
-- memory, to others nothing
unfoldable pub IsGivenAt : FileState → Command → Given → Type 0
IsGivenAt f (Change edit) given = IsGivenFor f edit given
IsGivenAt f (OpenView path hyper) given = IsMemory given
IsGivenAt f ListAll given = IsMemory given
IsGivenAt f (Dump path) given = IsMemory given
IsGivenAt f Repack given = IsGivenToRepack f given
IsGivenAt f _ given = given ≡ None
