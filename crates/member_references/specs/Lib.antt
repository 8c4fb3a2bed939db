pub mod Resolved
pub mod Meant
