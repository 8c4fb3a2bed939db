pub mod Kept
pub mod Rows
pub mod Signatures
pub mod Keeps
mod Listing
mod Codes
pub mod VerdictLaws
mod Samples
mod CodeSamples
mod AcceptedSample
