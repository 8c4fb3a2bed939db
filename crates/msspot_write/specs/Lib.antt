pub mod Gathers
pub mod Kinds
pub mod Parts
pub mod Spelt
pub mod Starts
pub mod Written
