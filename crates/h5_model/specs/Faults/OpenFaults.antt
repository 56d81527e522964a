-- The causes for which bytes are refused: their numbers and names.
use Rattle.std.specs.Prelude.{ℕ, List, codes}
use Rattle.h5_model.specs.declared.open_fault.Cause.{Cause}
use Rattle.h5_model.specs.declared.open_fault.Cause.TheVariants as cause

abbrev pub cause_number : Cause → ℕ
cause_number cause.NotHdf5 = 1
cause_number cause.Truncated = 2
cause_number cause.SuperblockVersion = 3
cause_number cause.FieldSizes = 4
cause_number cause.BaseAddress = 5
cause_number cause.Driver = 6
cause_number cause.KRange = 7
cause_number cause.HeaderVersion = 8
cause_number cause.MessageSize = 9
cause_number cause.MessageCount = 10
cause_number cause.SharedMessage = 11
cause_number cause.UnknownMessage = 12
cause_number cause.Filtered = 13
cause_number cause.ExternalFiles = 14
cause_number cause.NewStyleGroup = 15
cause_number cause.MissingMessage = 16
cause_number cause.DuplicateMessage = 17
cause_number cause.DataspaceForm = 18
cause_number cause.DatatypeForm = 19
cause_number cause.FillForm = 20
cause_number cause.LayoutForm = 21
cause_number cause.AttributeForm = 22
cause_number cause.HeapForm = 23
cause_number cause.HeapName = 24
cause_number cause.NodeForm = 25
cause_number cause.NameOrder = 26
cause_number cause.KeyOrder = 27
cause_number cause.Sibling = 28
cause_number cause.ChunkKey = 29
cause_number cause.LinkCount = 30
cause_number cause.GroupLinkedTwice = 31
cause_number cause.Overlap = 32
cause_number cause.TooDeep = 33
cause_number cause.TooLarge = 34
cause_number cause.BadName = 35
cause_number cause.NoMemory = 36

abbrev pub cause_name : Cause → List ℕ
cause_name cause.NotHdf5 = codes "NotHdf5"
cause_name cause.Truncated = codes "Truncated"
cause_name cause.SuperblockVersion = codes "SuperblockVersion"
cause_name cause.FieldSizes = codes "FieldSizes"
cause_name cause.BaseAddress = codes "BaseAddress"
cause_name cause.Driver = codes "Driver"
cause_name cause.KRange = codes "KRange"
cause_name cause.HeaderVersion = codes "HeaderVersion"
cause_name cause.MessageSize = codes "MessageSize"
cause_name cause.MessageCount = codes "MessageCount"
cause_name cause.SharedMessage = codes "SharedMessage"
cause_name cause.UnknownMessage = codes "UnknownMessage"
cause_name cause.Filtered = codes "Filtered"
cause_name cause.ExternalFiles = codes "ExternalFiles"
cause_name cause.NewStyleGroup = codes "NewStyleGroup"
cause_name cause.MissingMessage = codes "MissingMessage"
cause_name cause.DuplicateMessage = codes "DuplicateMessage"
cause_name cause.DataspaceForm = codes "DataspaceForm"
cause_name cause.DatatypeForm = codes "DatatypeForm"
cause_name cause.FillForm = codes "FillForm"
cause_name cause.LayoutForm = codes "LayoutForm"
cause_name cause.AttributeForm = codes "AttributeForm"
cause_name cause.HeapForm = codes "HeapForm"
cause_name cause.HeapName = codes "HeapName"
cause_name cause.NodeForm = codes "NodeForm"
cause_name cause.NameOrder = codes "NameOrder"
cause_name cause.KeyOrder = codes "KeyOrder"
cause_name cause.Sibling = codes "Sibling"
cause_name cause.ChunkKey = codes "ChunkKey"
cause_name cause.LinkCount = codes "LinkCount"
cause_name cause.GroupLinkedTwice = codes "GroupLinkedTwice"
cause_name cause.Overlap = codes "Overlap"
cause_name cause.TooDeep = codes "TooDeep"
cause_name cause.TooLarge = codes "TooLarge"
cause_name cause.BadName = codes "BadName"
cause_name cause.NoMemory = codes "NoMemory"
