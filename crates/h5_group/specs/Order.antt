pub mod Between
pub mod Ordered
pub mod Common
