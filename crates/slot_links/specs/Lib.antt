pub mod Slots
pub mod Rules
