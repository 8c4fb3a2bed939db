pub mod PostfixLemmas
