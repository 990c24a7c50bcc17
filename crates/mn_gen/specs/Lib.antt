pub mod Boards
pub mod Generated
pub mod Made
pub mod Rings
