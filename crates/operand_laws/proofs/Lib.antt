pub mod MemberLaws
pub mod TypeLaws
pub mod KnownLaws
