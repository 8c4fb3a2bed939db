pub mod Choices
pub mod Judging
