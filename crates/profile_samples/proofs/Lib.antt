pub mod Entry
pub mod SameName
pub mod Circle
pub mod Changes
