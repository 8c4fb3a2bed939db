pub mod Base
pub mod Index
pub mod Types
pub mod Methods
pub mod Members
