pub mod Order
pub mod World
pub mod Types
pub mod Members
pub mod Library
pub mod Code
pub mod Verdict
