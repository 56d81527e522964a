pub mod Parts
pub mod Others
pub mod Written
pub mod StoredChunks
pub mod ArrayHeader
