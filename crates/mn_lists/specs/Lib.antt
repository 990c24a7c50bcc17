pub mod Circles
pub mod Links
pub mod Queue
pub mod Row
pub mod Standing
