pub mod Scopes
pub mod Walk
pub mod Visits
