-- Why bytes are not opened (File Format Specification 3.0, sections II.A, III and IV.A).
use Rattle.std.specs.Prelude.{ℕ, List}
use Rattle.h5_model.specs.Faults.Breaches.{Breach, up_to_end}
use Rattle.h5_model.specs.declared.open_fault.OpenFault.{OpenFault}
use Rattle.h5_model.specs.declared.open_fault.Cause.{Cause}
use Rattle.h5_model.specs.declared.open_fault.Cause.TheVariants.{NoMemory}
use Rattle.h5_edit.specs.Opened.Refused.{ReadsSome}

-- memory was short, or the cause holds at the address
abbrev pub RefusedBy : List ℕ → Cause → ℕ → Type 0
RefusedBy bytes NoMemory at = Unit {0}
RefusedBy bytes cause at = Breach bytes cause at

abbrev pub Refused : List ℕ → OpenFault → Type 0
Refused bytes fault = RefusedBy bytes fault.cause fault.address

-- the bytes up to their end of file address are a tree
abbrev pub IsReadable : List ℕ → Type 0
IsReadable bytes = ReadsSome (up_to_end bytes)
