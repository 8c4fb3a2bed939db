pub mod Types
pub mod Seen
pub mod Texts
pub mod Ends
pub mod Names
pub mod Copies
pub mod Told
