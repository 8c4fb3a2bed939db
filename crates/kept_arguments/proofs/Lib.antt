pub mod InPlace
pub mod Kept
