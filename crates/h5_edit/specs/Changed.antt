pub mod Appended
pub mod Cells
