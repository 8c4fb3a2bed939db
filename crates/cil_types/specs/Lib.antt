pub mod Rows
pub mod Spelt
