pub mod Allowed
pub mod Removed
pub mod Rules
