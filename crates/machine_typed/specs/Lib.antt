pub mod Typing
pub mod Accepted
