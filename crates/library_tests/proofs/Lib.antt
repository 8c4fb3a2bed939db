pub mod IndexLaws
pub mod TypeLaws
pub mod ListLaws
pub mod NativeLaws
pub mod MethodLaws
pub mod WellLaws
