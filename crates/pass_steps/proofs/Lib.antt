pub mod RuleLaws
pub mod PlaceLaws
pub mod StandLaws
pub mod StepLaws
pub mod SeenLaws
pub mod ActLaws
pub mod OrderLaws
