pub mod Inside
pub mod Told
pub mod Standing
pub mod Names
