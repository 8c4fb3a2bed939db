pub mod AnswerLaws
pub mod SmallLaws
pub mod OwnLaws
pub mod FitLaws
pub mod FoundLaws
