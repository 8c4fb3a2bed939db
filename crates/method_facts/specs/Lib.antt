pub mod Places
pub mod Found
pub mod Members
pub mod Spelt
