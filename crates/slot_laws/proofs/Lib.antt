pub mod StandLaws
pub mod UpLaws
