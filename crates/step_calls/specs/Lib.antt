pub mod Callees
pub mod Arguments
pub mod Starts
