pub mod Breaches
pub mod OpenFaults
pub mod HeaderFaults
pub mod TreeFaults
