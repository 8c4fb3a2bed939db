pub mod Taking
pub mod Ending
pub mod Changing
pub mod Places
pub mod Growing
