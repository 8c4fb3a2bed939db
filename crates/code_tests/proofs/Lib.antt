pub mod ShapeLaws
pub mod LineLaws
pub mod ClauseLaws
pub mod TestLaws
pub mod MeantLaws
