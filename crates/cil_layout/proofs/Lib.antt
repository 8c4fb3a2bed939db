pub mod Below
pub mod Counts
pub mod Sizes
pub mod Stream
