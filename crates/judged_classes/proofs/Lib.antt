mod Fields
mod Natives
pub mod JudgedLaws
