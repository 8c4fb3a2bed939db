pub mod Sofar
pub mod Whole
pub mod Undone
