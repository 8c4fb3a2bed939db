-- The rows of all tables of which some are kept, and the rows that each of them names.
use Rattle.std.specs.Prelude.{ℕ, Bool, List, [], ◌∷◌, ◌++◌, Option, Some, None, slice_get, unwrap_or}
use Rattle.std.specs.List.{flat_map}
use Rattle.std.specs.Option.{option_map}
use Rattle.machine.specs.Throw.{on_some}
use Rattle.assemblies.specs.Rows.{TypeToken, TypeDef, TypeRef, TypeSpec, MemberToken, Own, Reference, Scope, OfAssembly, Inside, Nowhere, RawType, RawSpelt, RawClass, RawValue, RawArray, RawPlace, RawDirect, RawByRef, RawSignature, TypeRefRow, FieldRefRow, MethodRefRow, TypeRow, FieldRow, RawOperand, RawNothing, RawNumber, RawTargets, RawTypeOf, RawField, RawMethod, RawText, RawLine, RawKind, RawCatch, RawFinally, RawOther, RawClause, RawCode, MethodRow, Assembly}
use Rattle.assemblies.specs.Chosen.{Choice}

-- the n-th row of a table of an assembly
pub data Row : Type 0 where
  AssemblyRefAt : (file row : ℕ) → Row
  TypeRefAt : (file row : ℕ) → Row
  FieldRefAt : (file row : ℕ) → Row
  MethodRefAt : (file row : ℕ) → Row
  TypeAt : (file row : ℕ) → Row
  FieldAt : (file row : ℕ) → Row
  MethodAt : (file row : ℕ) → Row
  SpecAt : (file row : ℕ) → Row

-- which rows a choice has
abbrev pub marks : (ℕ → Choice) → Row → Bool
marks keep (AssemblyRefAt f n) = (keep f).assemblies n
marks keep (TypeRefAt f n) = (keep f).refs n
marks keep (FieldRefAt f n) = (keep f).field_refs n
marks keep (MethodRefAt f n) = (keep f).method_refs n
marks keep (TypeAt f n) = (keep f).types n
marks keep (FieldAt f n) = (keep f).fields n
marks keep (MethodAt f n) = (keep f).methods n
marks keep (SpecAt f n) = (keep f).specs n

abbrev pub in_option : {A : Type 0} → (A → List Row) → Option A → List Row
in_option names None = []
in_option names (Some x) = names x

-- ---- the rows that a row of assembly f names

module _ (f : ℕ) where
  abbrev pub by_type : TypeToken → Row
  by_type (TypeDef n) = TypeAt f n
  by_type (TypeRef n) = TypeRefAt f n
  by_type (TypeSpec n) = SpecAt f n

  abbrev pub by_method : MemberToken → Row
  by_method (Own n) = MethodAt f n
  by_method (Reference n) = MethodRefAt f n

  abbrev pub by_field : MemberToken → Row
  by_field (Own n) = FieldAt f n
  by_field (Reference n) = FieldRefAt f n

  abbrev pub in_scope : Scope → List Row
  in_scope (OfAssembly n) = AssemblyRefAt f n ∷ []
  in_scope (Inside n) = TypeRefAt f n ∷ []
  in_scope Nowhere = []

  abbrev pub in_type : RawType → List Row
  in_type (RawSpelt e) = []
  in_type (RawClass t) = by_type t ∷ []
  in_type (RawValue t) = by_type t ∷ []
  in_type (RawArray s) = in_type s

  abbrev pub in_place : RawPlace → List Row
  in_place (RawDirect s) = in_type s
  in_place (RawByRef s) = in_type s

  abbrev pub in_signature : RawSignature → List Row
  in_signature s = in_option in_type s.returns ++ flat_map in_place s.parameters

  abbrev pub in_kind : RawKind → List Row
  in_kind (RawCatch t) = by_type t ∷ []
  in_kind RawFinally = []
  in_kind RawOther = []

  abbrev pub in_operand : RawOperand → List Row
  in_operand RawNothing = []
  in_operand (RawNumber n) = []
  in_operand (RawTargets to) = []
  in_operand (RawTypeOf t) = by_type t ∷ []
  in_operand (RawField t) = by_field t ∷ []
  in_operand (RawMethod t) = by_method t ∷ []
  in_operand (RawText units) = []

  abbrev pub in_clause : RawClause → List Row
  in_clause c = in_kind c.kind

  abbrev pub in_line : RawLine → List Row
  in_line l = in_operand l.operand

  abbrev pub in_code : RawCode → List Row
  in_code c = flat_map in_type c.locals ++ (flat_map in_clause c.clauses ++ flat_map in_line c.lines)

  abbrev pub of_ref : TypeRefRow → List Row
  of_ref r = in_scope r.scope

  abbrev pub of_field_ref : FieldRefRow → List Row
  of_field_ref r = by_type r.parent ∷ in_type r.signature

  abbrev pub of_method_ref : MethodRefRow → List Row
  of_method_ref r = by_type r.parent ∷ in_signature r.signature

  abbrev pub enclosing_row : ℕ → List Row
  enclosing_row n = TypeAt f n ∷ []

  abbrev pub token_row : TypeToken → List Row
  token_row t = by_type t ∷ []

  abbrev pub of_type : TypeRow → List Row
  of_type t = in_option enclosing_row t.enclosing ++ (in_option token_row t.extends ++ flat_map token_row t.interfaces)

  abbrev pub of_field : FieldRow → List Row
  of_field x = in_type x.signature

  abbrev pub of_method : MethodRow → List Row
  of_method m = in_signature m.signature ++ in_option in_code m.code

-- of row n of a table, and none where there is no such row
abbrev pub of_row : {A : Type 0} → List Assembly → (Assembly → List A) → (A → List Row) → ℕ → ℕ → List Row
of_row ps table names f n = unwrap_or (option_map names (on_some (slice_get ps f) (λ p. slice_get (table p) n))) []

-- the rows that a row names: as scope, parent, superclass, interface or enclosing type, in its signature, or in its code
abbrev pub names_of : List Assembly → Row → List Row
names_of ps (AssemblyRefAt f n) = []
names_of ps (TypeRefAt f n) = of_row ps (λ p. p.refs) (of_ref f) f n
names_of ps (FieldRefAt f n) = of_row ps (λ p. p.field_refs) (of_field_ref f) f n
names_of ps (MethodRefAt f n) = of_row ps (λ p. p.method_refs) (of_method_ref f) f n
names_of ps (TypeAt f n) = of_row ps (λ p. p.types) (of_type f) f n
names_of ps (FieldAt f n) = of_row ps (λ p. p.fields) (of_field f) f n
names_of ps (MethodAt f n) = of_row ps (λ p. p.methods) (of_method f) f n
names_of ps (SpecAt f n) = of_row ps (λ p. p.specs) (in_type f) f n
