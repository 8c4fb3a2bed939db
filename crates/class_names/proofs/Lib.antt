pub mod TextLaws
pub mod NameLaws
pub mod FullLaws
