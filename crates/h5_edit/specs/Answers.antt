-- What edits and a repack are answered by what came of them.
use Rattle.std.specs.Prelude.{ℕ, Some, Result, Ok, Err}
use Rattle.h5_btree.specs.declared.insertion.InsertFault.{InsertFault}
use Rattle.h5_btree.specs.declared.insertion.InsertFault.TheVariants as insertion
use Rattle.h5_model.specs.declared.edit_fault.EditFault.{EditFault}
use Rattle.h5_model.specs.declared.edit_fault.EditFault.TheVariants as fault
use Rattle.h5_model.specs.declared.edits.Edited.{Edited}
use Rattle.h5_space.specs.declared.image.SpaceFault.TheVariants as space
use Rattle.h5_repack.specs.declared.write.Written.{Written}
use Rattle.h5_repack.specs.declared.write.WriteFault.{WriteFault}
use Rattle.h5_repack.specs.declared.write.WriteFault.TheVariants.{TooLong, TooDeep, NoMemory}
use Rattle.h5_edit.specs.declared.made.Made.{Made}

abbrev pub fault_of_write : WriteFault → EditFault
fault_of_write TooLong = fault.ImageFull
fault_of_write TooDeep = fault.TreeTooDeep
fault_of_write NoMemory = fault.NoMemory

-- what an edit is answered whose link or chunk could not be put
abbrev pub insert_fault : InsertFault → EditFault
insert_fault insertion.TreeTooDeep = fault.TreeTooDeep
insert_fault (insertion.Space space.ImageFull) = fault.ImageFull
insert_fault (insertion.Space space.NoMemory) = fault.NoMemory

-- what a new object of this number is answered, by what came of putting it
abbrev pub added_answer : Result (Unit {0}) InsertFault → ℕ → Result Edited EditFault
added_answer (Ok u) number = Ok (record { object = Some (record { 0 = number }); refreshed = 0 })
added_answer (Err f) number = Err (insert_fault f)

-- what a repack is answered, by what was written
abbrev pub answer_to : Result Written WriteFault → Result Made EditFault
answer_to (Ok w) = Ok (record { image = w.image; headers = w.headers })
answer_to (Err f) = Err (fault_of_write f)
