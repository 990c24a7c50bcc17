pub mod Worked
pub mod Askable
pub mod AskingSteps
pub mod LawfulAsking
