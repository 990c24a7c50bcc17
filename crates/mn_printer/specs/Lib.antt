pub mod Pages
pub mod Arguments
pub mod Faults
