pub mod FirstLaws
pub mod MemberLaws
pub mod ColumnLaws
pub mod LackingLaws
