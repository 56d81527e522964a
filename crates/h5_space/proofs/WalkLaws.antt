pub mod WalkedLaws
pub mod FieldLaws
pub mod MetFields
