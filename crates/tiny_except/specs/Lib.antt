pub mod Clauses
pub mod Unwinding
pub mod Searches
pub mod Machine
