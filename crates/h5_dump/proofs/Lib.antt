pub mod Listings
pub mod Dumps
