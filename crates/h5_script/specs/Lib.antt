pub mod GivenAt
pub mod Answered
pub mod Runs
pub mod Pieces
pub mod Script
pub mod Streams
pub use Rattle.h5_dump.specs.Opened
pub use Rattle.h5_dump.specs.Session
pub use Rattle.h5_dump.specs.Dumped
pub use Rattle.h5_dump.specs.declared.fault.DumpFault as DumpFaultType
