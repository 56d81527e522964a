-- The refusals of edits: their numbers, names and text.
use Rattle.std.specs.Prelude.{ℕ, List, ◌++◌, codes}
use Rattle.std.specs.Fmt.{decimal}
use Rattle.h5_model.specs.declared.edit_fault.EditFault.{EditFault}
use Rattle.h5_model.specs.declared.edit_fault.EditFault.TheVariants as fault

-- the rules' numbers; none is 11
abbrev pub fault_number : EditFault → ℕ
fault_number fault.BadPath = 1
fault_number fault.PathTooDeep = 2
fault_number fault.IsRoot = 3
fault_number fault.NoSuchParent = 4
fault_number fault.NotAGroup = 5
fault_number fault.NotFound = 6
fault_number fault.AlreadyThere = 7
fault_number fault.NameTooLong = 8
fault_number fault.NotADataset = 9
fault_number fault.GroupLink = 10
fault_number fault.BadSpec = 12
fault_number fault.RankMismatch = 13
fault_number fault.StrideZero = 14
fault_number fault.BlocksOverlap = 15
fault_number fault.OutOfExtent = 16
fault_number fault.NotChunked = 17
fault_number fault.AboveMaximum = 18
fault_number fault.ChunkTooLarge = 19
fault_number fault.CompactTooLarge = 20
fault_number fault.TooManyCells = 21
fault_number fault.ValueCount = 22
fault_number fault.ValueRange = 23
fault_number fault.AttributeTooLarge = 24
fault_number fault.NoSuchAttribute = 25
fault_number fault.TooManyLinks = 26
fault_number fault.TooManyObjects = 27
fault_number fault.HeaderFull = 28
fault_number fault.TreeTooDeep = 29
fault_number fault.ImageFull = 30
fault_number fault.NoMemory = 31

abbrev pub fault_name : EditFault → List ℕ
fault_name fault.BadPath = codes "BadPath"
fault_name fault.PathTooDeep = codes "PathTooDeep"
fault_name fault.IsRoot = codes "IsRoot"
fault_name fault.NoSuchParent = codes "NoSuchParent"
fault_name fault.NotAGroup = codes "NotAGroup"
fault_name fault.NotFound = codes "NotFound"
fault_name fault.AlreadyThere = codes "AlreadyThere"
fault_name fault.NameTooLong = codes "NameTooLong"
fault_name fault.NotADataset = codes "NotADataset"
fault_name fault.GroupLink = codes "GroupLink"
fault_name fault.BadSpec = codes "BadSpec"
fault_name fault.RankMismatch = codes "RankMismatch"
fault_name fault.StrideZero = codes "StrideZero"
fault_name fault.BlocksOverlap = codes "BlocksOverlap"
fault_name fault.OutOfExtent = codes "OutOfExtent"
fault_name fault.NotChunked = codes "NotChunked"
fault_name fault.AboveMaximum = codes "AboveMaximum"
fault_name fault.ChunkTooLarge = codes "ChunkTooLarge"
fault_name fault.CompactTooLarge = codes "CompactTooLarge"
fault_name fault.TooManyCells = codes "TooManyCells"
fault_name fault.ValueCount = codes "ValueCount"
fault_name fault.ValueRange = codes "ValueRange"
fault_name fault.AttributeTooLarge = codes "AttributeTooLarge"
fault_name fault.NoSuchAttribute = codes "NoSuchAttribute"
fault_name fault.TooManyLinks = codes "TooManyLinks"
fault_name fault.TooManyObjects = codes "TooManyObjects"
fault_name fault.HeaderFull = codes "HeaderFull"
fault_name fault.TreeTooDeep = codes "TreeTooDeep"
fault_name fault.ImageFull = codes "ImageFull"
fault_name fault.NoMemory = codes "NoMemory"

-- the answer of a script's line
abbrev pub refused_text : EditFault → List ℕ
refused_text f = codes "refused " ++ decimal (fault_number f) ++ codes " " ++ fault_name f ++ codes "\n"
