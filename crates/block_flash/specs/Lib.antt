pub mod Change
pub mod Failing
pub mod History
pub mod State
