pub mod NumberLaws
pub mod NeededLaws
