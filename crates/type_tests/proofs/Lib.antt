pub mod ListLaws
pub mod MoreLaws
pub mod CountLaws
pub mod TypeLaws
pub mod RepeatLaws
pub mod NameLaws
pub mod EntryLaws
