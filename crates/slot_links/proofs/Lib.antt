pub mod Elements
pub mod Added
pub mod OwnLinks
pub mod RuleLaws
