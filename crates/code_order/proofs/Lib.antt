pub mod RowLaws
pub mod BodyLaws
pub mod PhaseLaws
