-- Bounds on the schema.
use Rattle.std.proofs.Common.{◌≡◌, ℕ, zero, suc, ◌≤◌, Bool, true, false, ◌&&◌, List, [], ◌∷◌, map, length, get_or, refl, arith}
use Rattle.std.specs.Prelude.{nat_le}
use Rattle.std.specs.List.{list_all}
use Rattle.std.proofs.lemmas.Bool.{leb-true}
use Rattle.file_tables.specs.Schema.{columns_of, tag_bits_of}
use Rattle.file_tables.specs.declared.schema.Column.{Column}
use Rattle.file_tables.specs.declared.schema.Coded.{Coded}
use Rattle.file_tables.specs.declared.schema.Coded.TheVariants.{TypeDefOrRef, HasConstant, HasCustomAttribute, HasFieldMarshal, HasDeclSecurity, MemberRefParent, HasSemantics, MethodDefOrRef, MemberForwarded, Implementation, CustomAttributeType, ResolutionScope, TypeOrMethodDef}
use Rattle.file_tables.specs.declared.schema.TheConstants.{SCHEMA}

pub and_both : (a b : Bool) → (a && b) ≡ true → (a ≡ true) × (b ≡ true)
and_both true b h = (refl, h)
and_both false b h = cc

each_few : (tables : List (List Column)) (table : ℕ) → list_all (λ columns. nat_le (length columns) 9) tables ≡ true → length (get_or tables table []) ≤ 9
each_few [] table h = omega arith
each_few (x ∷ xs) zero h = leb-true (length x) 9 (and_both _ _ h).0
each_few (x ∷ xs) (suc table) h = each_few xs table (and_both _ _ h).1

-- a table has at most nine columns
pub columns_few : (table : ℕ) → length (columns_of table) ≤ 9
unfolding columns_of
columns_few table = each_few (map (λ columns. columns.now) SCHEMA) table refl

-- a tag has at most five bits
pub tag_bits_few : (coded : Coded) → tag_bits_of coded ≤ 5
unfolding tag_bits_of
tag_bits_few TypeDefOrRef = omega arith
tag_bits_few HasConstant = omega arith
tag_bits_few HasCustomAttribute = omega arith
tag_bits_few HasFieldMarshal = omega arith
tag_bits_few HasDeclSecurity = omega arith
tag_bits_few MemberRefParent = omega arith
tag_bits_few HasSemantics = omega arith
tag_bits_few MethodDefOrRef = omega arith
tag_bits_few MemberForwarded = omega arith
tag_bits_few Implementation = omega arith
tag_bits_few CustomAttributeType = omega arith
tag_bits_few ResolutionScope = omega arith
tag_bits_few TypeOrMethodDef = omega arith
