pub mod Fronts
pub mod Loop
pub mod Numbers
pub mod Types
pub mod Wholes
pub mod Near
pub mod Calls
pub mod Suffixes
