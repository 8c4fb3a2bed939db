mod ReferenceLaws
mod StringLaws
mod KeptLaws
mod WordLaws
pub mod ByteLaws
pub mod LiteralLaws
mod FitLaws
pub mod TokenLaws
