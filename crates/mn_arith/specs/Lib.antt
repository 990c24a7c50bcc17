pub mod Ariths
pub mod Extremes
pub mod Finds
pub mod Hulls
pub mod Pruning
pub mod Spans
