pub mod WaysLaws
pub mod PathLaws
pub mod MoveLaws
pub mod DoneLaws
