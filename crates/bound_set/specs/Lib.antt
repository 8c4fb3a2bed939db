pub mod Set
pub mod Kept
pub mod Library
pub mod Inside
pub mod Bound
pub mod Small
