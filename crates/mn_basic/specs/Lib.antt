pub mod Basics
pub mod Binaries
pub mod Intervals
pub mod Losses
pub mod Ties
pub mod Unaries
