pub mod Progress
pub mod Adding
pub mod Trees
