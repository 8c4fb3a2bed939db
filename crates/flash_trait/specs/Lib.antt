pub mod Flash
pub mod FlashCalls
