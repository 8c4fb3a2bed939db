pub mod OwnLaws
pub mod SeenLaws
pub mod WalkLaws
pub mod BankLaws
pub mod ChooseLaws
