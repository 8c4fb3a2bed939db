pub mod AnsweredLaws
pub mod HandlingLaws
pub mod OperatedLaws
