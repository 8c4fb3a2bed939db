pub mod Going
pub mod Popping
