pub mod Aliases
pub mod Variables
pub mod TupleLists
pub mod Words
pub mod Brackets
