-- The parts that spell the rows of an assembly, and its codes.
use Rattle.std.specs.Prelude.{ℕ, ◌+◌, Bool, true, false, List, [], ◌∷◌, ◌++◌, map, length, Option, Some, None}
use Rattle.std.specs.List.{flat_map}
use Rattle.machine.specs.Program.{Body, native_number}
use Rattle.classes.specs.Classes.{FieldKind}
use Rattle.assemblies.specs.Chosen.{first_of}
use Rattle.assemblies.specs.Closed.{Each}
use Rattle.assemblies.specs.Rows.{TypeToken, RawType, AssemblyRow, TypeRefRow, FieldRefRow, MethodRefRow, TypeRow, FieldRow, RawOperand, RawText, RawLine, RawKind, RawCatch, RawFinally, RawOther, RawClause, RawCode, MethodRow, Assembly}
use Rattle.image_form.specs.Signatures.{type_word, raw_onto, signature_onto, locals_onto}
use Rattle.image_form.specs.Form.{or_none, units_onto, type_flags, method_flags, is_native, scope_word, Manner, bytes_in, clauses_in, data_of}
use Rattle.image_form.specs.Whole.{Methods, offsets, interfaces_of, clauses_of, datas_of}
use Rattle.msspot_write.specs.declared.parts.Column.{Column}
use Rattle.msspot_write.specs.declared.parts.Column.TheVariants.{Number, Name, Signature, Data, Code}
use Rattle.msspot_write.specs.declared.parts.PartRow.{PartRow}
use Rattle.msspot_write.specs.declared.parts.PartLiteral.{PartLiteral}
use Rattle.msspot_write.specs.declared.parts.Parts.{Parts}

abbrev pub row_with : List Column → PartRow
row_with columns = record { columns = columns }

abbrev pub numbers : List ℕ → List Column
numbers ns = map (λ n. Number n) ns

abbrev pub raw_column : RawType → Column
raw_column s = Signature (raw_onto s [])

abbrev pub assembly_part : AssemblyRow → PartRow
assembly_part a = row_with (Name a.name ∷ numbers a.version)

abbrev pub ref_part : TypeRefRow → PartRow
ref_part r = row_with (Number (scope_word r.scope) ∷ Name r.namespace ∷ Name r.name ∷ [])

abbrev pub field_ref_part : FieldRefRow → PartRow
field_ref_part r = row_with (Number (type_word r.parent) ∷ Name r.name ∷ raw_column r.signature ∷ [])

abbrev pub method_ref_part : MethodRefRow → PartRow
method_ref_part r = row_with (Number (type_word r.parent) ∷ Name r.name ∷ Signature (signature_onto r.signature []) ∷ [])

-- ranges as they are, but that of the interfaces, which lie behind one another
abbrev pub type_part : ℕ → TypeRow → PartRow
type_part at t =
    row_with (
    Name t.namespace
    ∷ Name t.name
    ∷ numbers (
    or_none (λ n. n) t.enclosing ∷ or_none type_word t.extends ∷ type_flags t.kind t.is_interface t.is_abstract t.is_lazy
    ∷ first_of at (length t.interfaces) ∷ length t.interfaces ∷ t.first_field ∷ t.field_count ∷ t.first_method ∷ t.method_count ∷ []))

abbrev pub type_parts : ℕ → List TypeRow → List PartRow
type_parts at [] = []
type_parts at (t ∷ ts) = type_part at t ∷ type_parts (at + length t.interfaces) ts

abbrev pub interface_part : TypeToken → PartRow
interface_part t = row_with (Number (type_word t) ∷ [])

-- a field with data names the next row of the data
abbrev pub field_numbers : ℕ → FieldKind → List ℕ
field_numbers n FieldKind.InstanceField = 0 ∷ 65535 ∷ []
field_numbers n FieldKind.StaticField = 1 ∷ 65535 ∷ []
field_numbers n FieldKind.LiteralField = 1 ∷ 65535 ∷ []
field_numbers n (FieldKind.DataField bytes) = 1 ∷ n ∷ []

abbrev pub field_part : ℕ → FieldRow → PartRow
field_part n f = row_with (Name f.name ∷ raw_column f.signature ∷ numbers (field_numbers n f.kind))

abbrev pub field_parts : ℕ → List FieldRow → List PartRow
field_parts n [] = []
field_parts n (f ∷ fs) = field_part n f ∷ field_parts (n + length (data_of f.kind)) fs

abbrev pub locals_column : Bool → List RawType → Column
locals_column true ts = Signature (locals_onto ts [])
locals_column false ts = Number 65535

-- a native has its number where others have the start of their code
abbrev pub body_columns : ℕ → Manner → Body → Option RawCode → List Column
body_columns clause k (Body.Native name) code = numbers (native_number name ∷ 0 ∷ 65535 ∷ 0 ∷ 0 ∷ 0 ∷ [])
body_columns clause k body None = numbers (65535 ∷ 0 ∷ 65535 ∷ 0 ∷ 0 ∷ 0 ∷ [])
body_columns clause k body (Some c) =
    Code ∷ Code ∷ locals_column k.has_locals c.locals ∷ numbers (c.max_stack ∷ first_of clause (length c.clauses) ∷ length c.clauses ∷ [])

abbrev pub method_part : ℕ → Manner → MethodRow → PartRow
method_part clause k m =
    row_with (
    Name m.name
    ∷ Signature (signature_onto m.signature [])
    ∷ Number (method_flags m.is_static m.is_virtual m.is_newslot m.is_abstract (is_native m.body))
    ∷ body_columns clause k m.body m.code)

abbrev pub method_parts : ℕ → Methods → List PartRow
method_parts clause [] = []
method_parts clause (x ∷ xs) = method_part clause x.0 x.1 ∷ method_parts (clause + length (clauses_in x.1.code)) xs

abbrev pub clause_numbers : RawKind → List ℕ → List ℕ
clause_numbers (RawCatch t) places = 0 ∷ type_word t ∷ places
clause_numbers RawFinally places = 2 ∷ 65535 ∷ places
clause_numbers RawOther places = 1 ∷ 65535 ∷ places

abbrev pub clause_part : RawClause → PartRow
clause_part c = row_with (numbers (clause_numbers c.kind (c.try_start ∷ c.try_end ∷ c.start ∷ c.end ∷ [])))

abbrev pub spec_part : RawType → PartRow
spec_part s = row_with (raw_column s ∷ [])

abbrev pub data_part : List ℕ → PartRow
data_part bytes = row_with (Data bytes ∷ [])

-- ---- the literals, each with its method's row and its place

abbrev pub operand_parts : ℕ → ℕ → RawOperand → List PartLiteral
operand_parts method at (RawText units) = record { method = method; offset = at; text = units_onto units } ∷ []
operand_parts method at _ = []

abbrev pub code_parts : ℕ → Option RawCode → List PartLiteral
code_parts method None = []
code_parts method (Some c) = flat_map (λ (l : RawLine). operand_parts method l.at l.operand) c.lines

abbrev pub literal_parts : ℕ → Methods → List PartLiteral
literal_parts method [] = []
literal_parts method (x ∷ xs) = code_parts method x.1.code ++ literal_parts (method + 1) xs

-- ---- all of them

abbrev pub parts_for : Assembly → Methods → Parts
parts_for p ms =
    record {
      version = p.version;
      name = p.name;
      entry = or_none (λ n. n) p.entry;
      tables =
          map assembly_part p.assemblies
          ∷ map ref_part p.refs
          ∷ map field_ref_part p.field_refs
          ∷ map method_ref_part p.method_refs
          ∷ type_parts 0 p.types
          ∷ map interface_part (interfaces_of p)
          ∷ field_parts 0 p.fields
          ∷ method_parts 0 ms
          ∷ map clause_part (clauses_of ms)
          ∷ map spec_part p.specs
          ∷ map data_part (datas_of p)
          ∷ [];
      literals = literal_parts 0 ms;
    }

abbrev pub codes_for : Assembly → Methods → List (List ℕ)
codes_for p ms = map (λ x. bytes_in (offsets p ms) x.0 x.1.code) ms

-- a native has no code
abbrev pub BodyFits : Body → Option RawCode → Type 0
BodyFits (Body.Native name) (Some c) = ⊥
BodyFits _ _ = Unit {0}

abbrev pub BodiesFit : Methods → Type 0
BodiesFit ms = Each (λ (x : Manner × MethodRow). BodyFits x.1.body x.1.code) ms
