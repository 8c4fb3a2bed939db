-- The constant's columns, seen behind their references.
use Rattle.std.proofs.Common.{rules}
use Rattle.file_tables.proofs.SchemaLaws.{columns_at}
use Rattle.file_tables.proofs.schema.columns.Goals as goal

pub returns : goal.returns
returns c = search (rules, columns_at)
