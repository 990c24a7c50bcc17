pub mod Search
pub mod Searching
pub mod Asking
