pub mod LinkLaws
pub mod TokenLaws
pub mod SignatureLaws
pub mod NameLaws
