pub mod Objects
pub mod Order
pub mod Targets
