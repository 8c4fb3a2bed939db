pub mod BodyLaws
pub mod EntryLaws
pub mod FieldLaws
pub mod LibraryLaws
pub mod MethodLaws
pub mod OwnerLaws
pub mod SuperLaws
pub mod TypeLaws
