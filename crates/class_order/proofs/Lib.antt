pub mod ChainLaws
pub mod ReachLaws
pub mod TypeLaws
