pub mod FaultLaws
pub mod EntryLaws
pub mod OrderLaws
pub mod EntryOrder
pub mod StillLaws
pub mod RemoveLaws
pub mod AddedStill
pub mod SetLaws
