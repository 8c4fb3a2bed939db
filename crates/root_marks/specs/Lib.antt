pub mod Roots
pub mod Are
