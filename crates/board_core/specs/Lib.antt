pub mod Asked
pub mod Ends
pub mod Handling
pub mod Operated
pub mod Plain
pub mod Worlds
