pub mod Basic
pub mod Order
pub mod Types
