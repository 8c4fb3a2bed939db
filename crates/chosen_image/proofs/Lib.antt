pub mod PlaceLaws
pub mod ClauseLaws
pub mod LineLaws
pub mod RowsSpelt
