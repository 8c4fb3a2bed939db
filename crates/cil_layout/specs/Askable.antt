-- What may be asked for.
use Rattle.std.specs.Prelude.{◌≡◌, ℕ, ◌^◌, ◌<◌, ◌≤◌, ◌==◌, List, [], ◌∷◌, length, Bool, true, ◌&&◌, ◌||◌, nat_lt, nat_le}
use Rattle.std.specs.List.{list_all, list_any}
use Rattle.std.specs.Str.{is_utf8}
use Rattle.cil_layout.specs.declared.rows.Row.{Row}
use Rattle.cil_layout.specs.declared.rows.Row.TheVariants.{TypeDef, Field, MethodDef, AssemblyRef, TypeRef, MemberRef, TypeSpec, Locals, InterfaceImpl, NestedClass, ClassLayout, Literal}
use Rattle.cil_layout.specs.declared.rows.TheConstants.{MODULE, TYPE_REF, TYPE_DEF, METHOD_DEF, TYPE_SPEC, ASSEMBLY_REF, MOST_WEIGHT, MOST_ROWS}
use Rattle.cil_layout.specs.Asked.{Asked, rows_of, weight_of}
use Rattle.cil_layout.specs.Numbers.{token_table, token_row}

-- UTF-8 without the zero character
abbrev pub is_name : List ℕ → Bool
is_name name = is_utf8 name && list_all (nat_le 1) name

abbrev pub are_bytes : List ℕ → Bool
are_bytes bytes = list_all (λ b. nat_lt b 256) bytes

abbrev pub are_units : List ℕ → Bool
are_units units = list_all (λ u. nat_lt u 65536) units

abbrev pub is_version : List ℕ → Bool
is_version version = (length version == 4) && are_units version

-- the token of a row that is asked for, of one of these tables (II.22)
abbrev pub is_token : Asked → List ℕ → ℕ → Bool
is_token r tables token =
    list_any (λ table. table == token_table token) tables && nat_le 1 (token_row token) && nat_le (token_row token) (rows_of r (token_table token))

-- each number fits its column, and each token is one that its column takes (II.24.2.6)
abbrev pub is_askable_row : Asked → Row → Bool
is_askable_row r (TypeDef t) =
    nat_lt t.flags (2 ^ 32) && is_name t.namespace && is_name t.name && ((t.extends == 0) || is_token r (TYPE_DEF ∷ TYPE_REF ∷ TYPE_SPEC ∷ []) t.extends)
is_askable_row r (Field f) = nat_lt f.flags (2 ^ 16) && is_name f.name && are_bytes f.signature && are_bytes f.bytes
is_askable_row r (MethodDef m) = nat_lt m.impl_flags (2 ^ 16) && nat_lt m.flags (2 ^ 16) && is_name m.name && are_bytes m.signature && are_bytes m.body
is_askable_row r (AssemblyRef a) = is_name a.name && is_version a.version
is_askable_row r (TypeRef t) = is_token r (MODULE ∷ ASSEMBLY_REF ∷ TYPE_REF ∷ []) t.scope && is_name t.namespace && is_name t.name
is_askable_row r (MemberRef m) = is_token r (TYPE_DEF ∷ TYPE_REF ∷ METHOD_DEF ∷ TYPE_SPEC ∷ []) m.parent && is_name m.name && are_bytes m.signature
is_askable_row r (TypeSpec signature) = are_bytes signature
is_askable_row r (Locals signature) = are_bytes signature
is_askable_row r (InterfaceImpl i) = is_token r (TYPE_DEF ∷ []) i.class && is_token r (TYPE_DEF ∷ TYPE_REF ∷ TYPE_SPEC ∷ []) i.interface
is_askable_row r (NestedClass n) = is_token r (TYPE_DEF ∷ []) n.nested && is_token r (TYPE_DEF ∷ []) n.enclosing
is_askable_row r (ClassLayout l) = nat_lt l.size (2 ^ 32) && is_token r (TYPE_DEF ∷ []) l.class
is_askable_row r (Literal units) = are_units units

-- Names hold no zero character, tokens name rows that are asked for, and the whole isn't too heavy. The other facts hold of all values of the builder's types.
pub record IsAskable (r : Asked) : Type 0 where
  pub name : is_name r.name ≡ true
  pub version : is_version r.version ≡ true
  pub rows : list_all (is_askable_row r) r.rows ≡ true
  pub entry : r.entry < 2 ^ 32
  pub few : (table : ℕ) → table < 64 → rows_of r table ≤ MOST_ROWS
  pub light : weight_of r ≤ MOST_WEIGHT
