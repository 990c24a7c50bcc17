pub mod Costs
pub mod Cutting
pub mod Fitting
pub mod Forms
pub mod Measuring
pub mod Numbers
