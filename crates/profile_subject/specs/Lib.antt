pub mod Subject
pub mod Faults
