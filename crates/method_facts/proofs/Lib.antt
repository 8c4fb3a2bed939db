pub mod PlaceLaws
pub mod FieldLaws
pub mod ClassLaws
pub mod Tells
