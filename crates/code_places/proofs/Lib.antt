mod EachLaws
pub mod Table
pub mod TargetLaws
pub mod MarkLaws
pub mod WalkLaws
