pub mod Fronts
pub mod Cutting
pub mod Spacing
pub mod Printing
