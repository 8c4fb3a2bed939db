pub mod CountLaws
pub mod OrderLaws
pub mod PhaseLaws
mod SoundLaws
