pub mod Tree
pub mod Faults
pub mod Edits
pub mod Views
pub mod Scripts
pub mod Format
