pub mod Boards
pub mod Names
pub mod Numerals
pub mod Rings
pub mod Streams
