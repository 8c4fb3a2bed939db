pub mod Starts
pub mod Steps
pub mod Shrunk
pub mod Limits
pub mod Lines
pub mod FileLines
