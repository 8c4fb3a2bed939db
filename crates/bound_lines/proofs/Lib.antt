pub mod CodeLaws
pub mod SpecLaws
pub mod MeaningLaws
pub mod TokenLaws
