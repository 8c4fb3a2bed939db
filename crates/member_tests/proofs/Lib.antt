pub mod ListLaws
pub mod OrderLaws
pub mod ClassLaws
pub mod FieldLaws
pub mod MethodLaws
