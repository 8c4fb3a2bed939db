mod ColumnLaws
mod KeptLaws
mod CountLaws
mod FileLaws
