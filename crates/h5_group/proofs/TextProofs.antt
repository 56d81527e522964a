pub mod ListLaws
pub mod EmptyNames
pub mod EntryLaws
pub mod LinkedLaws
pub mod KeyLaws
pub mod TextLaws
pub mod AllowedNames
