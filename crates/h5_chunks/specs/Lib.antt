pub mod Shapes
pub mod Between
pub mod Told
pub mod Order
pub mod Read
pub mod Way
pub mod Cursor
pub mod Keys
pub mod Held
pub mod Edited
pub mod Bushy
pub mod Lists
pub mod Beyond
pub mod Empty
pub mod Put
pub use Rattle.h5_btree.specs.Walk
pub use Rattle.h5_btree.specs.declared.insertion.InsertFault as InsertFaultType
