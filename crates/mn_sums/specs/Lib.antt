pub mod Parts
pub mod Posted
pub mod Sums
