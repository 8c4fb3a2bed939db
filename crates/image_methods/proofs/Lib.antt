mod WorldLaws
mod TableLaws
mod ClauseLaws
mod NativeLaws
mod MethodLaws
mod ColumnLaws
