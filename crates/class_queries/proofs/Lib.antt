pub mod RowLaws
pub mod NumberLaws
pub mod GraphLaws
pub mod EndLaws
pub mod SubLaws
pub mod BelowLaws
