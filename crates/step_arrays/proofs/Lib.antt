pub mod Made
pub mod Lengths
pub mod Acts
pub mod Reading
