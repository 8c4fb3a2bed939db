pub mod SizeLaws
pub mod ListLaws
pub mod SeenLaws
pub mod WalkLaws
pub mod RowLaws
pub mod ByteLaws
pub mod EntryLaws
pub mod FoundLaws
