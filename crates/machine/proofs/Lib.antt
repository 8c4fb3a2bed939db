pub mod Samples
pub mod NumberRuns
pub mod ThrowRuns
pub mod MemoryRuns
pub mod ObjectRuns
pub mod NativeRuns
pub mod BorderRuns
