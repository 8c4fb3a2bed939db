pub mod Exact
pub mod Places
