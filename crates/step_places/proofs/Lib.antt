pub mod Rooms
pub mod Zeros
pub mod Told
pub mod Variables
pub mod ArgumentActs
pub mod LocalActs
