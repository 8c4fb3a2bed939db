pub mod MarkLaws
pub mod EntryLaws
pub mod NameLaws
pub mod RootLaws
