pub mod Commands
pub mod FaultLaws
pub mod FaultlessLaws
pub mod Pairs
