pub mod Cut
pub mod Bodies
pub mod Choosing
pub mod Images
pub mod Over
pub mod Numbered
