pub mod RowLaws
pub mod FitLaws
pub mod SpellLaws
pub mod MergeLaws
