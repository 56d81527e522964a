pub mod EntryLaws
pub mod NameLaws
pub mod WrittenLaws
pub mod EditLaws
