pub mod Parts
pub mod Code
pub mod Program
pub mod Places
pub mod Trace
pub mod Listed
