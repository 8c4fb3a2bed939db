pub mod Lists
pub mod Frames
pub mod Heaps
pub mod Starts
