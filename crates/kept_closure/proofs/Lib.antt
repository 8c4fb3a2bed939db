pub mod ClosedLaws
