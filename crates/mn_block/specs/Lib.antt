pub mod Cells
pub mod Ownership
pub mod Words
