pub mod Places
pub mod ChainLaws
pub mod WorkLaws
