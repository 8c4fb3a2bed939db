pub mod Elements
pub mod Reading
pub mod Spelling
pub mod Seen
pub mod Places
