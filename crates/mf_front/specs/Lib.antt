pub mod Jobs
pub mod Words
pub mod Texts
