pub mod AddedLaws
pub mod MadeLaws
pub mod OwnLaws
pub mod SlotLaws
