pub mod Circles
pub mod IndexLaws
pub mod KeyRanges
pub mod ScanLaws
pub mod SearchLaws
pub mod FindLaws
