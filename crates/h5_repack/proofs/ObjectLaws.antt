pub mod Counting
pub mod Members
pub mod Zips
pub mod Reached
pub mod Trees
pub mod Walks
