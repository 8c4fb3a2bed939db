pub mod Row
pub mod Rules
