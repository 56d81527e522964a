pub mod Leads
pub mod Sizes
pub mod Headers
pub mod Pushed
pub mod Orders
pub mod Images
pub mod Faults
pub mod BlockLaws
pub mod BodyLaws
pub mod ChunkLaws
pub mod ObjectLaws
pub mod ImageLaws
pub mod BareGroup
pub mod EmptyFile
pub use Rattle.h5_group.proofs.WriteLaws.BareGroup as BareGroupRead
