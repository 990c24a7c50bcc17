pub mod Matrices
pub mod Trees
pub mod Constraining
pub mod Law
