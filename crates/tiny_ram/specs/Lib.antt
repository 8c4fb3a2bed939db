pub mod Things
pub mod Memory
pub mod Region
