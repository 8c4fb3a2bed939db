pub mod Placing
pub mod Constructing
