pub mod Written
pub mod Laws
pub mod Steps
pub mod Parts
