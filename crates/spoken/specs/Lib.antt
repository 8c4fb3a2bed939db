pub mod Speaks
