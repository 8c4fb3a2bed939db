pub mod FormLemmas
pub mod JobLaws
pub mod CheckLaws
pub mod ConvertLaws
pub mod WritingLemmas
