pub mod Elements
pub mod Gathers
pub mod Picks
pub mod Stretches
