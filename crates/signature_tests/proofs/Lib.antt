pub mod FitLaws
pub mod Lengths
pub mod RowLaws
pub mod ToldLaws
