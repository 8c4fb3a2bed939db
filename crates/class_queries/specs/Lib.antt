pub mod Found
pub mod Numbers
pub mod Chains
pub mod Edges
pub mod Graph
pub mod Heights
pub mod Below
