pub mod Fair
pub mod HeadTokens
pub mod ListSteps
pub mod Looking
pub mod Reached
pub mod Turning
