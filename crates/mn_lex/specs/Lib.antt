pub mod Leading
pub mod Lexicals
pub mod Orders
pub mod Pairs
