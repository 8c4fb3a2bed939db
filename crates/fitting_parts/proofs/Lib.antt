pub mod ByteLaws
pub mod RowLaws
pub mod TokenLaws
pub mod KeptLaws
