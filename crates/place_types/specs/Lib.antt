pub mod Types
pub mod Held
