pub mod Places
pub mod GroupMessages
pub mod ObjectLaws
pub mod TreeLaws
pub mod Paths
pub mod WholeHolds
