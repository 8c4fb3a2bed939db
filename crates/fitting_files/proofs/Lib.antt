pub mod SignatureLaws
mod HeaderLaws
mod PlaceLaws
pub mod FewLaws
pub mod FileLaws
