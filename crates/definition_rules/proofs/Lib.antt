pub mod MoreLaws
pub mod NameLaws
pub mod RuleLaws
