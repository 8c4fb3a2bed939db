pub mod Results
pub mod Ended
