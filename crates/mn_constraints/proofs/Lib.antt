pub mod Odd
pub mod ListPlaces
pub mod ArgumentSteps
pub mod RowSteps
pub mod FormSteps
pub mod SectionSteps
pub mod NumberSteps
pub mod TupleSteps
