pub mod KeyLaws
pub mod IndexLaws
pub mod ReferenceLaws
pub mod ResolveLaws
