pub mod Lists
pub mod Names
pub mod Tables
pub mod Constraints
pub mod Declarations
pub mod Search
pub mod Canonical
pub mod Law
