pub mod ListLaws
pub mod BodyLaws
pub mod CodeLaws
pub mod ChosenCodes
pub mod CutLaws
pub mod LimitLaws
mod LeastImage
