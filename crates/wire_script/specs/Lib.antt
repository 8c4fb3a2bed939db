pub mod Net
pub mod Script
