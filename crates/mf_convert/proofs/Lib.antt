pub mod ImagesLaws
pub mod JudgedLaws
pub mod OneLaws
