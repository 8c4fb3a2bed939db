pub mod Marks
pub mod Looked
