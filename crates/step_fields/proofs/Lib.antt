pub mod Finding
pub mod Acts
