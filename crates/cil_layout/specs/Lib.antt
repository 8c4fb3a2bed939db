pub mod Askable
pub mod Asked
pub mod Counted
pub mod Heaps
pub mod Layout
pub mod Numbers
pub mod Text
