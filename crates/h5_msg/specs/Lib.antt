pub mod Times
pub mod ChunkSizes
pub mod Layouts
pub mod Parts
