pub mod RankLaws
pub mod NeededLaws
