pub mod NumberLaws
pub mod RangeLaws
