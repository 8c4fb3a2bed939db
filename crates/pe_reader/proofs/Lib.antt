pub mod Finds
pub mod PeLaws
pub mod SpanLaws
