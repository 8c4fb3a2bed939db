pub mod Bodies
pub mod Entry
pub mod Fields
pub mod Library
pub mod Parameters
pub mod Setting
