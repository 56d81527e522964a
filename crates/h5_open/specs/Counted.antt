pub mod Counts
pub mod Links
