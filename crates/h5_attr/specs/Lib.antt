pub mod Attributes
pub mod Still
