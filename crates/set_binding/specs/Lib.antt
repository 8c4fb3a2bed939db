pub mod Tables
pub mod Columns
pub mod Searched
pub mod Lacking
pub mod Ways
pub mod Refused
