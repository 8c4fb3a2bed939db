pub mod CodeLaws
pub mod RefLaws
pub mod TokenLaws
pub mod MethodLaws
