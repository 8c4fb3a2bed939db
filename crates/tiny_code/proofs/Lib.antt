pub mod NumberLaws
pub mod Tails
pub mod Lengths
