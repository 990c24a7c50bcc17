pub mod Counts
pub mod Distances
pub mod Occurrences
pub mod Rows
pub mod Singles
pub mod Takings
