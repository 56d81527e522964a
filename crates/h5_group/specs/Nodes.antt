pub mod Trees
pub mod Stands
pub mod Walk
