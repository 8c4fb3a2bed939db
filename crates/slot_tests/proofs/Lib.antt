mod AddedLaws
pub mod PhaseLaws
