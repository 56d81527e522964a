pub mod HeaderAttributes
pub mod HeaderOthers
pub mod HeaderGroup
pub mod HeaderSpace
pub mod HeaderLengths
pub mod ChunkSizes
pub mod HeaderArray
pub mod ArrayReads
