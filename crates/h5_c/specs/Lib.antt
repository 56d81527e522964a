pub mod Slot
pub mod Status
pub mod Calls
pub mod Read
pub mod Given
pub mod Asked
pub mod Viewed
