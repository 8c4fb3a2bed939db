pub mod StartLaws
pub mod ClauseLaws
pub mod LeadLaws
