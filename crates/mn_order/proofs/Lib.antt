pub mod Beaten
pub mod Scans
pub mod Places
