pub mod Numbering
pub mod Tabling
pub mod Filling
pub mod Nesting
