pub mod Better
pub mod Choose
pub mod Keeps
