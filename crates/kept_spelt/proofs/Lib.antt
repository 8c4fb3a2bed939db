pub mod SignatureLaws
pub mod RowLaws
pub mod RangeLaws
pub mod KindLaws
pub mod KeptLaws
