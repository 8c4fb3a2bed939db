pub mod Meant
pub mod Law
