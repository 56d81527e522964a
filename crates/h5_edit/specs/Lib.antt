pub mod Carried
pub mod Repacked
pub mod Edited
pub mod StorageFacts
pub mod Stored
pub mod WriteTarget
pub mod Answers
pub mod Refusals
pub mod Fits
pub mod Changed
pub use Rattle.h5_query.specs.Listed
pub use Rattle.h5_query.specs.Look
pub use Rattle.h5_query.specs.Found
pub use Rattle.h5_query.specs.Place
pub use Rattle.h5_query.specs.Pieces
pub use Rattle.h5_query.specs.Selected
pub use Rattle.h5_query.specs.declared.found.Found as FoundType
pub use Rattle.h5_query.specs.Opened
pub use Rattle.h5_query.specs.Resized
pub use Rattle.h5_query.specs.OpenedObjectType
pub use Rattle.h5_query.specs.Renumbered
pub use Rattle.h5_layout.specs.Lent
pub use Rattle.h5_repack.specs.Bodies as RepackedBodies
pub use Rattle.h5_repack.specs.Image.Plain as PlainTrees
