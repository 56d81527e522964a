pub mod Named
pub mod Refused
pub mod Linked
pub mod Taken
