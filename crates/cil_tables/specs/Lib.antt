pub mod Texts
pub mod Place
pub mod Shape
pub mod Layout
pub mod Inside
pub mod IndexOf
pub mod Headers
