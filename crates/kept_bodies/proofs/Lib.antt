pub mod WalkLaws
pub mod TokenLaws
pub mod CodeLaws
mod LiteralLaws
mod TableLaws
