pub mod DownLaws
pub mod RowLaws
pub mod OwnLaws
pub mod TargetLaws
pub mod SlotLaws
pub mod KeptLaws
