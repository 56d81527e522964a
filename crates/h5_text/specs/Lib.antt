pub mod Appends
pub mod Rows
pub mod Listing
pub mod Printed
pub mod Stores
