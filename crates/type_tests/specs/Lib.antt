pub mod Columns
pub mod Judged
pub mod Names
pub mod Entries
