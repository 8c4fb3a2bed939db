pub mod TellLaws
pub mod DataLaws
pub mod BracketLaws
pub mod SetLaws
pub mod WordLaws
pub mod FoundLaws
pub mod ProgramLaws
