pub mod TokenLaws
pub mod PartLaws
pub mod MemberLaws
pub mod ExpandLaws
