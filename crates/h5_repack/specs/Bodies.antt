pub mod Bodies
pub mod Headers
pub mod Sound
pub mod Chunks
pub mod Laws
