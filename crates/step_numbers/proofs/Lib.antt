pub mod Sights
pub mod Taking
pub mod Ending
