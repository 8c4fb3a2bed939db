pub mod Told
pub mod Judge
