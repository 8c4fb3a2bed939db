pub mod Columns
pub mod Owners
pub mod Meant
pub mod Data
pub mod Natives
pub mod Members
