pub mod Layout
pub mod Written
pub mod Blocks
pub mod Bodies
pub mod Objects
pub mod Image
pub use Rattle.h5_group.specs.Writing.Written as GroupLinks
