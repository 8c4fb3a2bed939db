pub mod BlobLaws
pub mod LoadedLaws
pub mod RowLaws
pub mod PlaceLaws
