pub mod Breaking
pub mod Digits
pub mod Lawful
pub mod Limited
pub mod Unbroken
pub mod Wanting
