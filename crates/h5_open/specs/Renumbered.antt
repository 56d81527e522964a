pub mod Exchanged
pub mod Headers
