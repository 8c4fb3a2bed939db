pub mod JudgeLaws
pub mod OrderLaws
pub mod RowLaws
