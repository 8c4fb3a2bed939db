pub mod FirstForm
pub mod FirstPath
pub mod Accepted
pub mod Check
pub mod Convert
pub mod Jobs
pub mod Writing
