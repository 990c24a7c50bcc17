pub mod Laws
pub mod Limits
pub mod Meant
pub mod Rules
pub mod Words
