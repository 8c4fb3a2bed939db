pub mod Decoding
pub mod Made
pub mod Placed
pub mod Spelling
pub mod Stream
