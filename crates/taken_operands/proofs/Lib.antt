pub mod OperandLaws
pub mod KeptLaws
pub mod AcceptedLaws
pub mod TakenLaws
