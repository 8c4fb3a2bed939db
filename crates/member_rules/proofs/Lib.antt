pub mod Among
pub mod RangeLaws
pub mod ItemLaws
pub mod NativeLaws
pub mod RowLaws
pub mod MemberLaws
pub mod TypeLaws
