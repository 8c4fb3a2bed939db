pub mod Code
pub mod References
