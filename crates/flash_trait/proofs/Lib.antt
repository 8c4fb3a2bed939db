pub mod FlashBytes
pub mod FlashContents
pub mod FlashMoments
pub mod Operations
