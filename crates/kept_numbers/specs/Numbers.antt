-- The rows of a set laid end to end: assembly by assembly, and in each one table by table.
use Rattle.std.specs.Prelude.{ℕ, zero, suc, ◌+◌, List, [], ◌∷◌, ◌++◌, length, unwrap_or, slice_get}
use Rattle.std.specs.Option.{option_map}
use Rattle.assemblies.specs.Rows.{RawType, AssemblyRow, TypeRefRow, FieldRefRow, MethodRefRow, TypeRow, FieldRow, MethodRow, Assembly}
use Rattle.assemblies.specs.Binding.{numbered}
use Rattle.kept_closure.specs.Named.{Stands}
use Rattle.kept_rules.specs.Row.{Row, AssemblyRefAt, TypeRefAt, FieldRefAt, MethodRefAt, TypeAt, FieldAt, MethodAt, SpecAt}

-- a row is one of its table
abbrev pub IsThere : List Assembly → Row → Type 0
IsThere ps (AssemblyRefAt f n) = (p : Assembly) × ((x : AssemblyRow) × Stands ps (λ q. q.assemblies) f n p x)
IsThere ps (TypeRefAt f n) = (p : Assembly) × ((x : TypeRefRow) × Stands ps (λ q. q.refs) f n p x)
IsThere ps (FieldRefAt f n) = (p : Assembly) × ((x : FieldRefRow) × Stands ps (λ q. q.field_refs) f n p x)
IsThere ps (MethodRefAt f n) = (p : Assembly) × ((x : MethodRefRow) × Stands ps (λ q. q.method_refs) f n p x)
IsThere ps (TypeAt f n) = (p : Assembly) × ((x : TypeRow) × Stands ps (λ q. q.types) f n p x)
IsThere ps (FieldAt f n) = (p : Assembly) × ((x : FieldRow) × Stands ps (λ q. q.fields) f n p x)
IsThere ps (MethodAt f n) = (p : Assembly) × ((x : MethodRow) × Stands ps (λ q. q.methods) f n p x)
IsThere ps (SpecAt f n) = (p : Assembly) × ((x : RawType) × Stands ps (λ q. q.specs) f n p x)

-- the rows of a table
abbrev pub laid : {A : Type 0} → (ℕ → Row) → List A → List Row
laid at xs = numbered (λ n x. at n) 0 xs

-- of assembly f
abbrev pub rows_in : ℕ → Assembly → List Row
rows_in f p =
    laid (AssemblyRefAt f) p.assemblies
    ++ (laid (TypeRefAt f) p.refs
    ++ (laid (FieldRefAt f) p.field_refs
    ++ (laid (MethodRefAt f) p.method_refs
    ++ (laid (TypeAt f) p.types
    ++ (laid (FieldAt f) p.fields
    ++ (laid (MethodAt f) p.methods
    ++ laid (SpecAt f) p.specs))))))

-- of assemblies from number f on
abbrev pub rows_from : ℕ → List Assembly → List Row
rows_from f [] = []
rows_from f (p ∷ ps) = rows_in f p ++ rows_from (suc f) ps

abbrev pub all_rows : List Assembly → List Row
all_rows ps = rows_from 0 ps

-- ---- the number of a row

abbrev pub file_of : Row → ℕ
file_of (AssemblyRefAt f n) = f
file_of (TypeRefAt f n) = f
file_of (FieldRefAt f n) = f
file_of (MethodRefAt f n) = f
file_of (TypeAt f n) = f
file_of (FieldAt f n) = f
file_of (MethodAt f n) = f
file_of (SpecAt f n) = f

-- among those of its assembly: behind the tables before its own
abbrev pub place_in : Assembly → Row → ℕ
place_in p (AssemblyRefAt f n) = n
place_in p (TypeRefAt f n) = length p.assemblies + n
place_in p (FieldRefAt f n) = length p.assemblies + (length p.refs + n)
place_in p (MethodRefAt f n) = length p.assemblies + (length p.refs + (length p.field_refs + n))
place_in p (TypeAt f n) = length p.assemblies + (length p.refs + (length p.field_refs + (length p.method_refs + n)))
place_in p (FieldAt f n) =
    length p.assemblies + (length p.refs + (length p.field_refs + (length p.method_refs + (length p.types + n))))
place_in p (MethodAt f n) =
    length p.assemblies + (length p.refs + (length p.field_refs + (length p.method_refs + (length p.types + (length p.fields + n)))))
place_in p (SpecAt f n) =
    length p.assemblies + (length p.refs + (length p.field_refs + (length p.method_refs + (length p.types + (length p.fields + (length p.methods + n))))))

abbrev pub row_count : Assembly → ℕ
row_count p =
    length p.assemblies + (length p.refs + (length p.field_refs + (length p.method_refs + (length p.types + (length p.fields + (length p.methods + length p.specs))))))

-- how many rows are before those of assembly f
abbrev pub start_of : List Assembly → ℕ → ℕ
start_of [] f = 0
start_of (p ∷ ps) zero = 0
start_of (p ∷ ps) (suc f) = row_count p + start_of ps f

abbrev pub number_of : List Assembly → Row → ℕ
number_of ps r = start_of ps (file_of r) + unwrap_or (option_map (λ p. place_in p r) (slice_get ps (file_of r))) 0
