pub mod StandLaws
pub mod LibraryLaws
