pub mod Handing
pub mod Taking
pub mod Starting
pub mod Begun
pub mod Calling
