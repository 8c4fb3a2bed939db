pub mod RowLaws
pub mod FileLaws
pub mod MadeLaws
pub mod NumberLaws
pub mod AddLaws
pub mod WorldLaws
pub mod NeededLaws
