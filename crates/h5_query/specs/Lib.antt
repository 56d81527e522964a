pub mod Names
pub mod Place
pub mod Steps
pub mod Look
pub mod Listed
pub mod Found
pub mod Kept
pub mod Selected
pub use Rattle.h5_open.specs.Opened
pub use Rattle.h5_open.specs.Told
pub use Rattle.h5_open.specs.Links
pub use Rattle.h5_open.specs.declared.opened.object.OpenedObject as OpenedObjectType
pub use Rattle.h5_open.specs.Renumbered
pub use Rattle.h5_open.specs.Written
pub use Rattle.h5_open.specs.Resized
pub use Rattle.h5_open.specs.ChangedInPlace
pub use Rattle.h5_open.specs.declared.opened.object.OpenedContent as OpenedContentType
pub use Rattle.h5_open.specs.declared.opened.write.StandingCells as StandingCellsType
pub use Rattle.h5_open.specs.Stored
pub use Rattle.h5_open.specs.StoredExtent
pub use Rattle.h5_open.specs.Data
pub use Rattle.h5_open.specs.Pieces
pub use Rattle.h5_open.specs.GroupTold
pub use Rattle.h5_open.specs.Attributes
pub use Rattle.h5_open.specs.Attributed
pub use Rattle.h5_open.specs.LinkAdded
pub use Rattle.h5_open.specs.LinkTaken
pub use Rattle.h5_open.specs.LinkEdits
pub use Rattle.h5_open.specs.ObjectAdded
pub use Rattle.h5_open.specs.declared.opened.added.ContentBytes as ContentBytesType
pub use Rattle.h5_open.specs.declared.opened.added.ObjectBytes as ObjectBytesType
