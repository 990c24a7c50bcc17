pub mod TextProgress
