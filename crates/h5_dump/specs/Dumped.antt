-- What a dump writes, and what is written where it is refused or cut off.
use Rattle.std.specs.Prelude.{◌≡◌, ℕ, Option, None, Some, List, Result, Ok, Err}
use Rattle.std.specs.Io.KnownBytes.{Appends}
use Rattle.h5_model.specs.Edits.Refusal.{first_holding}
use Rattle.h5_model.specs.Scripts.Answers.{dump_of}
use Rattle.h5_model.specs.Scripts.Reading.{path_rules}
use Rattle.h5_model.specs.Tree.Objects.{Tree}
use Rattle.h5_model.specs.Tree.Paths.{location_of}
use Rattle.h5_model.specs.declared.edit_fault.EditFault.TheVariants as fault
use Rattle.h5_text.specs.Printed.{WritesSome}
use Rattle.h5_dump.specs.declared.fault.DumpFault.{DumpFault}
use Rattle.h5_dump.specs.declared.fault.DumpFault.TheVariants.{Refused, Cut}

-- no rule refuses the path, and what stands there was written
pub record IsDumped (tree : Tree) (path : List ℕ) (old new : Option (List ℕ)) : Type 0 where
  pub accepted : first_holding (path_rules tree path) ≡ None
  pub written : Appends old new (dump_of tree path (location_of tree path))

-- no rule refuses the path, and a beginning of what stands there was written
pub record IsPartlyDumped (tree : Tree) (path : List ℕ) (old new : Option (List ℕ)) : Type 0 where
  pub accepted : first_holding (path_rules tree path) ≡ None
  pub some : WritesSome old new (dump_of tree path (location_of tree path))

-- the rules refuse the path, or none does and memory was short, and nothing was written; or the dump was cut off
abbrev pub IsUndumped : Tree → List ℕ → Option (List ℕ) → Option (List ℕ) → DumpFault → Type 0
IsUndumped tree path old new (Refused fault.NoMemory) = (first_holding (path_rules tree path) ≡ None) × (new ≡ old)
IsUndumped tree path old new (Refused e) = (first_holding (path_rules tree path) ≡ Some e) × (new ≡ old)
IsUndumped tree path old new (Cut reason) = IsPartlyDumped tree path old new

-- the text was written; or memory was short and nothing was; or a beginning of it was
abbrev pub Dumps : {T : Type 0} → Result T DumpFault → Option (List ℕ) → Option (List ℕ) → List ℕ → Type 0
Dumps (Ok x) old new text = Appends old new text
Dumps (Err (Refused fault.NoMemory)) old new text = new ≡ old
Dumps (Err (Refused e)) old new text = ⊥
Dumps (Err (Cut reason)) old new text = WritesSome old new text
