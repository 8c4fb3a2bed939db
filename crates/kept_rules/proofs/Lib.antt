pub mod NameLaws
pub mod RuleLaws
pub mod There
pub mod LeastLaws
