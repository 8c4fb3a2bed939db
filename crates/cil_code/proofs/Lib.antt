pub mod Lengths
pub mod Parts
pub mod Unrolled
pub mod Walked
