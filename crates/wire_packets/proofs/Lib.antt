pub mod Sums
pub mod Agreement
pub mod Cases
pub mod Numbers
pub mod Spelt
pub mod Read
pub mod Streams
pub mod Places
