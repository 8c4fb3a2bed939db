pub mod Sizes
pub mod Walks
pub mod Finds
pub mod SetLaws
