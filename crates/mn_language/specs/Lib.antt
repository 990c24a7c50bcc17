pub mod Forms
pub mod Arguments
pub mod Values
pub mod Constraints
pub mod Constructing
pub mod Texts
pub mod WholeTexts
