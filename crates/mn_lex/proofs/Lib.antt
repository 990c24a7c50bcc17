pub mod Changed
pub mod Chosen
pub mod Differing
pub mod Leaders
pub mod Meant
pub mod Ordered
pub mod Parted
pub mod Vectors
