pub mod Walked
pub mod Met
