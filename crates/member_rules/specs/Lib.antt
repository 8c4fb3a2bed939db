pub mod Members
pub mod Thrown
pub mod Rules
