pub mod Instructions
pub mod Walk
pub mod Sections
pub mod Bodies
