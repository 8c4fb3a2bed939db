pub mod Heaps
pub mod Types
pub mod Values
pub mod States
pub mod Throws
pub mod Operators
pub mod Steps
pub mod Things
pub mod FieldRows
pub mod BoxRows
pub mod ArrayRows
pub mod PointerRows
pub mod NativeRows
pub mod CallRows
pub mod InstructionRows
pub mod Runs
pub mod Sample
mod Effects
