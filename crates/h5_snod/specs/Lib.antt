pub mod Form
pub mod Entries
pub mod Names
pub mod Written
pub mod Raw
