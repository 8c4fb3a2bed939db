-- The schema of the metadata tables (II.22), read from the tables of src/schema.rt.
use Rattle.std.specs.Prelude.{ℕ, List, [], map, slice_index_or}
use Rattle.file_tables.specs.declared.schema.Coded.{Coded}
use Rattle.file_tables.specs.declared.schema.Coded.TheVariants.{TypeDefOrRef, HasConstant, HasCustomAttribute, HasFieldMarshal, HasDeclSecurity, MemberRefParent, HasSemantics, MethodDefOrRef, MemberForwarded, Implementation, CustomAttributeType, ResolutionScope, TypeOrMethodDef}
use Rattle.file_tables.specs.declared.schema.Column.{Column}
use Rattle.file_tables.specs.declared.schema.TheConstants.{SCHEMA, TAG_BITS, TAG_TABLES}
use Rattle.file_tables.specs.declared.numbers.TheConstants.{NO_TABLE}

-- the columns of a table; none where the number is no table's
unfoldable pub columns_of : ℕ → List Column
columns_of table = slice_index_or (map (λ columns. columns.now) SCHEMA) table []

-- the place of a coded index's tags
abbrev pub place_of : Coded → ℕ
place_of TypeDefOrRef = 0
place_of HasConstant = 1
place_of HasCustomAttribute = 2
place_of HasFieldMarshal = 3
place_of HasDeclSecurity = 4
place_of MemberRefParent = 5
place_of HasSemantics = 6
place_of MethodDefOrRef = 7
place_of MemberForwarded = 8
place_of Implementation = 9
place_of CustomAttributeType = 10
place_of ResolutionScope = 11
place_of TypeOrMethodDef = 12

-- how many of the lowest bits are the tag, and the tables of tags 0, 1, 2 and so on
unfoldable pub tag_bits_of : Coded → ℕ
tag_bits_of coded = slice_index_or TAG_BITS (place_of coded) 0

unfoldable pub tables_of : Coded → List ℕ
tables_of coded = slice_index_or (map (λ tables. tables.now) TAG_TABLES) (place_of coded) []

-- the table of a tag
abbrev pub table_of : Coded → ℕ → ℕ
table_of coded tag = slice_index_or (tables_of coded) tag NO_TABLE
