pub mod Walk
pub mod Kept
pub mod Literals
