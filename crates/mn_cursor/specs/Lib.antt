pub mod Progress
pub mod Looks
pub mod Heads
pub mod Sections
pub mod Lists
pub mod Added
