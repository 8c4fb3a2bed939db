pub mod First
pub mod Bound
pub mod Standing
