pub mod Rounds
pub mod Nodes
pub mod References
pub mod Rows
pub mod Programs
pub mod Members
pub mod Whole
pub mod ChosenWays
