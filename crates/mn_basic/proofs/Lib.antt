pub mod Binary
pub mod Dropped
pub mod Numbered
pub mod Ordered
pub mod Reached
pub mod Tying
