pub mod FirstLaws
pub mod LibraryLaws
pub mod BaseLaws
pub mod NumberLaws
pub mod ListLaws
pub mod InterfaceLaws
pub mod TypeLaws
pub mod FileLaws
