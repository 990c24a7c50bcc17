pub mod Beating
pub mod Deciding
pub mod Enclosing
pub mod Rounding
