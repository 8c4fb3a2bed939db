-- The numbers of a row mean what was asked for.
use Rattle.std.proofs.Common.{◌≡◌, ℕ, ◌<◌, false, eqb, [], ◌∷◌, Some, ◌⊎◌, inl, inr, refl, sym, ap, ◌∙◌, subst, arith}
use Rattle.std.proofs.lemmas.Bool.{ne_eqb}
use Rattle.cil_layout.specs.declared.rows.Row.{Row}
use Rattle.cil_layout.specs.declared.rows.Row.TheVariants.{TypeDef, Field, MethodDef, AssemblyRef, TypeRef, MemberRef, TypeSpec, Locals, InterfaceImpl, NestedClass, ClassLayout, Literal}
use Rattle.cil_layout.specs.declared.places.Places.{Places}
use Rattle.cil_layout.specs.Asked.{Asked, table_of, token_of}
use Rattle.cil_layout.specs.Numbers.{token_row, type_index, parent_index, scope_index, numbers_of}
use Rattle.file_tables.specs.declared.schema.Coded.TheVariants.{TypeDefOrRef, MemberRefParent, ResolutionScope}
use Rattle.file_tables.specs.Heaps.{string_at, blob_at}
use Rattle.file_tables.specs.Schema.{columns_of, tag_bits_of, tables_of}
use Rattle.file_tables.specs.Metadata.{MetadataPart, token_table as coded_table, token_row as coded_row}
use Rattle.layout_laws.specs.ReadBack.{meaning_of, meanings_by, meanings, token_or_none, asked_meanings}
use Rattle.layout_laws.proofs.MeaningsFacts.{IsSound}
use Rattle.layout_laws.proofs.MeaningsTokens.{IsToken, named, named_coded, only_table, type_coded, parent_coded, scope_coded}

-- both heaps begin with the empty entry
pub record HasZeros (m : MetadataPart) : Type 0 where
  pub string : string_at m.strings 0 ≡ Some []
  pub blob : blob_at m.blobs 0 ≡ Some []

-- 0 names row 0 of TypeDef
pub none_named : token_of (coded_table TypeDefOrRef 0) (coded_row TypeDefOrRef 0) ≡ token_of 2 0
unfolding tag_bits_of tables_of
none_named = refl

-- a superclass, or none
extends_named : (r : Asked) (token : ℕ) → (token ≡ 0) ⊎ IsToken r (2 ∷ 1 ∷ 27 ∷ []) token
    → token_of (coded_table TypeDefOrRef (type_index token)) (coded_row TypeDefOrRef (type_index token)) ≡ token_or_none token
extends_named r token (inl none) = subst (λ t. token_of (coded_table TypeDefOrRef (type_index t)) (coded_row TypeDefOrRef (type_index t)) ≡ token_or_none t) (sym none) none_named
extends_named r token (inr some) =
    let other : eqb token 0 ≡ false = ne_eqb token 0 (λ e. omega (arith, some.low, e)) in
    rw other (named_coded TypeDefOrRef (type_index token) token (type_coded r token some))

-- a row of one table
row_named : (r : Asked) (table token : ℕ) → IsToken r (table ∷ []) token → token_of table (token_row token) ≡ token
row_named r table token is = ap (λ t. token_of t (token_row token)) (only_table r table token is) ∙ named token

-- each kind of row in the row's own table
pub says : (m : MetadataPart) (r : Asked) (p : Places) (row : Row) → HasZeros m → IsSound m r p row → table_of row < 64 → meanings m (table_of row) (numbers_of p row) ≡ asked_meanings p row
unfolding columns_of meanings_by meaning_of
says m r p (TypeDef t) zeros is below = rw (is.names.0, is.names.1, extends_named r t.extends is.tokens) refl
says m r p (Field f) zeros is below = rw (is.names, is.blob) refl
says m r p (MethodDef d) zeros is below = rw (is.names, is.blob) refl
says m r p (AssemblyRef a) zeros is below = rw (is.names, zeros.string, zeros.blob) refl
says m r p (TypeRef t) zeros is below = rw (is.names.0, is.names.1, named_coded ResolutionScope (scope_index t.scope) t.scope (scope_coded r t.scope is.tokens)) refl
says m r p (MemberRef d) zeros is below = rw (is.names, is.blob, named_coded MemberRefParent (parent_index d.parent) d.parent (parent_coded r d.parent is.tokens)) refl
says m r p (TypeSpec signature) zeros is below = rw is.blob refl
says m r p (Locals signature) zeros is below = rw is.blob refl
says m r p (InterfaceImpl i) zeros is below = rw (row_named r 2 i.class is.tokens.0, named_coded TypeDefOrRef (type_index i.interface) i.interface (type_coded r i.interface is.tokens.1)) refl
says m r p (NestedClass n) zeros is below = rw (row_named r 2 n.nested is.tokens.0, row_named r 2 n.enclosing is.tokens.1) refl
says m r p (ClassLayout l) zeros is below = rw (row_named r 2 l.class is.tokens) refl
says m r p (Literal units) zeros is below = absurd (omega arith)
