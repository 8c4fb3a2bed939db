pub mod SubjectLaws
pub mod RowLaws
pub mod OwnerLaws
pub mod LibraryLaws
pub mod TableLaws
