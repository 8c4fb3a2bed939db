pub mod Given
pub mod Links
pub mod Named
pub mod Rules
