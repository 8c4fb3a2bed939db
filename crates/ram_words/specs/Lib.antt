pub mod Region
pub mod Cells
pub mod Elements
pub mod Headers
pub mod Frames
