pub mod Changes
pub mod Held
pub mod Laid
pub mod Layouts
pub mod Rows
pub mod Sets
pub mod Sifting
pub mod States
