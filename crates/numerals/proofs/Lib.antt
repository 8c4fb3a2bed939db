pub mod NumeralsLemmas
