pub mod Below
pub mod Named
pub mod Held
pub mod Changed
