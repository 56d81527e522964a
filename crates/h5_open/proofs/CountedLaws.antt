pub mod CountLaws
pub mod FieldCounts
pub mod ObjectLaws
pub mod CheckLaws
