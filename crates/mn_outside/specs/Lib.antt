pub mod Faults
pub mod Content
pub mod Reading
pub mod Memory
pub mod Laws
pub mod Fault
