pub mod Base
pub mod Fields
pub mod Interfaces
pub mod Types
pub mod Inside
