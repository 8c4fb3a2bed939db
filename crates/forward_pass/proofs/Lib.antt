pub mod JoinLaws
pub mod RuleLaws
pub mod EdgeLaws
pub mod VisitLaws
pub mod PassLaws
