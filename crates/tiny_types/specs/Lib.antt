pub mod Small
pub mod Answers
pub mod Bound
pub mod Named
pub mod Found
