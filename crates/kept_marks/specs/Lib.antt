pub mod Ranks
pub mod Kept
pub mod Masks
