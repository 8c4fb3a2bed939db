pub mod Subject
pub mod Whole
