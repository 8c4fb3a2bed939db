pub mod SameNumbers
pub mod CompressedLaws
mod Examples
pub mod SchemaLaws
