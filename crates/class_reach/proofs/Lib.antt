pub mod FoundLaws
pub mod ReachLaws
