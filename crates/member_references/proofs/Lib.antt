pub mod Lists
pub mod TokenLaws
pub mod MeantLaws
pub mod ThereLaws
pub mod RowLaws
pub mod ResolveLaws
