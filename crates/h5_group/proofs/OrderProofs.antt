pub mod EntryNames
pub mod NodeNames
pub mod AscendLaws
pub mod NameEnds
pub mod OrderFaults
pub mod TextCommon
pub mod ApartLanes
