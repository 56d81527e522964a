-- Why a view is not opened, closed or shown: numbers, names and text.
use Rattle.std.specs.Prelude.{ℕ, List, ◌++◌, codes}
use Rattle.std.specs.Fmt.{decimal}
use Rattle.h5_model.specs.Edits.EditFaults.{fault_number, fault_name, refused_text}
use Rattle.h5_model.specs.declared.view_fault.ViewFault.{ViewFault}
use Rattle.h5_model.specs.declared.view_fault.ViewFault.TheVariants as fault

abbrev pub view_fault_number : ViewFault → ℕ
view_fault_number fault.NoSuchView = 1
view_fault_number fault.Gone = 2
view_fault_number fault.OutsideNow = 3
view_fault_number fault.TooManyViews = 4
view_fault_number fault.NoMemory = 5
view_fault_number (fault.Path f) = fault_number f

abbrev pub view_fault_name : ViewFault → List ℕ
view_fault_name fault.NoSuchView = codes "NoSuchView"
view_fault_name fault.Gone = codes "Gone"
view_fault_name fault.OutsideNow = codes "OutsideNow"
view_fault_name fault.TooManyViews = codes "TooManyViews"
view_fault_name fault.NoMemory = codes "NoMemory"
view_fault_name (fault.Path f) = fault_name f

-- the answer of a script's line: a refusal of the path is told as an edit's
abbrev pub view_fault_text : ViewFault → List ℕ
view_fault_text (fault.Path f) = refused_text f
view_fault_text f = codes "fault " ++ decimal (view_fault_number f) ++ codes " " ++ view_fault_name f ++ codes "\n"
