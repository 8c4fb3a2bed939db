pub mod Kept
pub mod Walk
pub mod Fields
pub mod Types
pub mod Header
