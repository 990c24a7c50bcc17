pub mod Choices
pub mod Families
pub mod Laws
pub mod Meaning
pub mod Solutions
