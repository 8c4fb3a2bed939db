pub mod Named
pub mod Expands
pub mod JoinedLaws
