pub mod Best
pub mod Keeping
pub mod Laws
pub mod Left
pub mod Turns
pub mod Visits
