pub mod TokenLaws
pub mod MarkLaws
pub mod LookLaws
pub mod SignatureLaws
pub mod CodeLaws
pub mod BodyLaws
