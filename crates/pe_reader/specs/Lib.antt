pub mod Seen
pub mod Headers
pub mod Inside
pub mod Spans
pub mod InsideCursor
