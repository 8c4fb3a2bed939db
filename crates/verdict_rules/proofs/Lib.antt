pub mod VerdictLaws
