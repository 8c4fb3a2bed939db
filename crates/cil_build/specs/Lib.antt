pub mod Build
pub mod Refs
pub use Rattle.cil_layout.specs.Asked
pub use Rattle.cil_layout.specs.Counted
pub use Rattle.cil_layout.specs.Text
