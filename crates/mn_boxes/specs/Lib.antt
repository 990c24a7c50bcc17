pub mod Bits
pub mod Boxes
pub mod Events
pub mod Laws
pub mod Places
pub mod Sets
pub mod Values
