pub mod Initialised
