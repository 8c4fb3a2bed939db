pub mod Keys
pub mod Signatures
pub mod Code
pub mod Fields
pub mod Fits
pub mod Files
pub mod Natives
