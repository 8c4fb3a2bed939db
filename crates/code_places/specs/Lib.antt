pub mod Among
pub mod Marks
pub mod Places
pub mod Clauses
pub mod Inside
