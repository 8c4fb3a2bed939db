pub mod TokenLaws
pub mod Known
pub mod RowLaws
