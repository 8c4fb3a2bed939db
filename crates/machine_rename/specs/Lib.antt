pub mod Rename
pub mod Again
pub mod Places
pub mod Runs
