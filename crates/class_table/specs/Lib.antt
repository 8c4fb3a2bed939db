pub mod Seen
pub mod Outlines
pub mod Whole
