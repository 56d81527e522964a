pub mod PlainBodies
pub mod NamedEntries
pub mod PlainObjects
pub mod Bounds
pub mod PlainArrays
pub mod NewArrays
pub mod NewAttributes
pub mod OpenedTrees
