pub mod Small
pub mod Kept
