pub mod Sources
pub mod FileLinks
pub mod Needed
