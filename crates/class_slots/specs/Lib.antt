pub mod Added
pub mod Own
pub mod Slots
