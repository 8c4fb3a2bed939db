pub mod Columns
pub mod Methods
