pub mod Owned
pub mod Virtual
pub mod Down
pub mod Bodied
