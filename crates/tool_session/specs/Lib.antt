pub mod Goals
pub mod Tools
