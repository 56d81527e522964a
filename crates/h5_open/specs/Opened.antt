pub mod Headers
pub mod Judged
pub mod Kept
pub mod Objects
pub mod Refused
pub mod Sound
pub mod State
