pub mod BodyLaws
pub mod RowLaws
