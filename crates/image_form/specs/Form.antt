-- The rows of an image, and the image of rows.
use Rattle.std.specs.Prelude.{ℕ, ◌+◌, ◌*◌, ◌/◌, ◌%◌, Bool, true, false, not, ◌&&◌, nat_eq, nat_lt, nat_le, if◌then◌else◌, List, [], ◌∷◌, ◌++◌, map, length, take, drop, Option, Some, None, slice_get, unwrap_or}
use Rattle.std.specs.Option.{option_map}
use Rattle.std.specs.List.{list_all, list_any}
use Rattle.std.specs.Str.{is_utf8}
use Rattle.plain_types.specs.declared.elem.Elem.{Elem}
use Rattle.plain_types.specs.declared.elem.Elem.TheVariants as elem
use Rattle.cil_opcodes.specs.declared.shape.Row.{Row}
use Rattle.cil_opcodes.specs.Rows.{row_of}
use Rattle.machine.specs.Throw.{on_some}
use Rattle.machine.specs.Program.{Body, NativeName, ObjectToString, EnumEquals, EnumToString, ArrayLength, ArrayCopy, StringLength, StringChars, StringConcat, StringSubstring, StringEquals, StringCompare, StringFromChars, StringFromChar, NumberSigned, NumberUnsigned, InitializeArray, DebugPrint, native_number}
use Rattle.classes.specs.Classes.{FieldKind, TypeKind}
use Rattle.classes.specs.Queries.{is_integer}
use Rattle.classes.specs.Code.{CodeClause, Finally}
use Rattle.classes.specs.Clauses.{lie_well}
use Rattle.image_bytes.specs.Layout.{is_range}
use Rattle.assemblies.specs.Chosen.{first_of}
use Rattle.assemblies.specs.Rows.{TypeToken, TypeDef, TypeRef, TypeSpec, Scope, OfAssembly, Inside, Nowhere, RawType, RawArray, RawSignature, AssemblyRow, TypeRefRow, FieldRefRow, MethodRefRow, TypeRow, FieldRow, RawLine, RawKind, RawCatch, RawFinally, RawOther, RawClause, RawCode, MethodRow}
use Rattle.image_form.specs.Signatures.{type_word, type_token, member_word, member_token, elem_byte, elem_at, raw_onto, signature_onto, locals_onto, read_type, read_signature, read_locals, whole}
use Rattle.image_form.specs.Codes.{short, Meaning, Words, instrs_of, instrs_onto, lines_of, instrs_to}

-- ---- small parts

abbrev pub on_both : {A B : Type 0} → Option (A → B) → Option A → Option B
on_both None o = None
on_both (Some f) None = None
on_both (Some f) (Some x) = Some (f x)

abbrev pub all_some : {A B : Type 0} → (A → Option B) → List A → Option (List B)
all_some read [] = Some []
all_some read (x ∷ xs) = on_both (option_map (λ y ys. y ∷ ys) (read x)) (all_some read xs)

abbrev pub checked : {A : Type 0} → Bool → A → Option A
checked b x = if b then Some x else None

abbrev pub part : {A : Type 0} → ℕ → ℕ → List A → List A
part first count xs = take count (drop first xs)

abbrev pub or_none : {A : Type 0} → (A → ℕ) → Option A → ℕ
or_none word None = 65535
or_none word (Some x) = word x

-- a number that is none, or read
abbrev pub none_or : {A : Type 0} → (ℕ → Option A) → ℕ → Option (Option A)
none_or read w = if nat_eq w 65535 then Some None else option_map Some (read w)

abbrev pub bit_word : Bool → ℕ
bit_word true = 1
bit_word false = 0

abbrev pub bit : ℕ → ℕ → Bool
bit weight w = nat_eq (w / weight % 2) 1

-- a literal's units, two bytes each
abbrev pub units_onto : List ℕ → List ℕ
units_onto [] = []
units_onto (u ∷ us) = u % 256 ∷ (u / 256) ∷ units_onto us

abbrev pub units_of : List ℕ → Option (List ℕ)
units_of [] = Some []
units_of (a ∷ []) = None
units_of (a ∷ b ∷ bytes) = option_map (λ us. (a + 256 * b) ∷ us) (units_of bytes)

-- ---- natives by number

abbrev pub natives : List Body
natives =
    Body.Missing ∷ Body.Native ObjectToString ∷ Body.Native EnumEquals ∷ Body.Native EnumToString ∷ Body.Native ArrayLength ∷ Body.Native ArrayCopy ∷ Body.Native StringLength ∷ Body.Native StringChars
    ∷ Body.Native StringConcat ∷ Body.Native StringSubstring ∷ Body.Native StringEquals ∷ Body.Native StringCompare ∷ Body.Native StringFromChars ∷ Body.Native StringFromChar
    ∷ Body.Native NumberSigned ∷ Body.Native NumberUnsigned ∷ Body.Native InitializeArray ∷ Body.Native DebugPrint ∷ []

abbrev pub native_body : ℕ → Body
native_body n = unwrap_or (slice_get natives n) Body.Missing

-- ---- flags

abbrev pub is_reference_elem : Elem → Bool
is_reference_elem elem.String = true
is_reference_elem elem.Object = true
is_reference_elem _ = false

abbrev pub kind_word : TypeKind → ℕ
kind_word TypeKind.Reference = 0
kind_word (TypeKind.Builtin e) = elem_byte e + (if is_reference_elem e then 0 else 512)
kind_word (TypeKind.Enumeration e) = elem_byte e + 768
kind_word TypeKind.OtherValue = 512

abbrev pub type_flags : TypeKind → Bool → Bool → Bool → ℕ
type_flags kind interface abstract lazy = kind_word kind + (32 * bit_word interface + (64 * bit_word abstract + 128 * bit_word lazy))

-- on an image from elsewhere an enum without a number's code is another value type
abbrev pub enum_kind : Option Elem → TypeKind
enum_kind None = TypeKind.OtherValue
enum_kind (Some e) = if is_integer e then TypeKind.Enumeration e else TypeKind.OtherValue

abbrev pub plain_kind : Bool → Option Elem → TypeKind
plain_kind value (Some e) = TypeKind.Builtin e
plain_kind true None = TypeKind.OtherValue
plain_kind false None = TypeKind.Reference

abbrev pub kind_of : ℕ → TypeKind
kind_of w = if bit 256 w then enum_kind (elem_at (w % 32)) else plain_kind (bit 512 w) (elem_at (w % 32))

abbrev pub method_flags : Bool → Bool → Bool → Bool → Bool → ℕ
method_flags a b c d e = bit_word a + (2 * bit_word b + (4 * bit_word c + (8 * bit_word d + 16 * bit_word e)))

abbrev pub is_native : Body → Bool
is_native (Body.Native name) = true
is_native _ = false

-- ---- the clauses of one method: rule 44 but for starts and classes

abbrev pub is_known_kind : RawKind → Bool
is_known_kind RawOther = false
is_known_kind _ = true

-- where the regions of a clause lie
abbrev pub regions_of : RawClause → CodeClause
regions_of c = record { kind = Finally; try_start = c.try_start; try_end = c.try_end; start = c.start; end = c.end }

-- of a known kind, and in code of so many bytes
abbrev pub lies_in : ℕ → RawClause → Bool
lies_in n c = is_known_kind c.kind && nat_le c.try_end n && nat_le c.end n

abbrev pub clauses_nest : ℕ → List RawClause → Bool
clauses_nest n clauses = list_all (lies_in n) clauses && lie_well (map regions_of clauses)

abbrev pub is_catch : RawClause → Bool
is_catch c = elim c.kind [ RawCatch t ↦ true | RawFinally ↦ false | RawOther ↦ false ]

-- a method with a catch has room for the exception
abbrev pub has_room : ℕ → List RawClause → Bool
has_room max_stack clauses = not (nat_eq max_stack 0 && list_any is_catch clauses)

-- ---- reading

-- what rows are read by: texts, signatures and tokens by their numbers, and what ranges are taken of
pub record Held : Type 0 where
  pub text : ℕ → Option (List ℕ)
  pub signature : ℕ → Option (List ℕ)
  pub type : ℕ → Option TypeToken
  pub scope : ℕ → Option Scope
  pub row : ℕ → Option ℕ
  pub interfaces : List TypeToken
  pub clauses : List RawClause
  pub datas : List (List ℕ)
  pub code : List ℕ
  pub fields : ℕ
  pub methods : ℕ

-- a token that a signature may have
abbrev pub no_spec : TypeToken → Option TypeToken
no_spec (TypeDef n) = Some (TypeDef n)
no_spec (TypeRef n) = Some (TypeRef n)
no_spec (TypeSpec n) = None

abbrev pub only_array : RawType → Option RawType
only_array (RawArray s) = Some (RawArray s)
only_array _ = None

abbrev pub name_text : List ℕ → Option (List ℕ)
name_text b = checked (is_utf8 b) b

abbrev pub make_assembly_row : List ℕ → List ℕ → AssemblyRow
make_assembly_row version name = record { name = name; version = version }

abbrev pub make_ref : Scope → List ℕ → List ℕ → TypeRefRow
make_ref s ns n = record { scope = s; namespace = ns; name = n }

abbrev pub make_field_ref : TypeToken → List ℕ → RawType → FieldRefRow
make_field_ref p n s = record { parent = p; name = n; signature = s }

abbrev pub make_method_ref : TypeToken → List ℕ → RawSignature → MethodRefRow
make_method_ref p n s = record { parent = p; name = n; signature = s }

abbrev pub make_type : ℕ → ℕ → ℕ → ℕ → ℕ → List ℕ → List ℕ → Option ℕ → Option TypeToken → List TypeToken → TypeRow
make_type flags ff fc mf mc ns n outer up interfaces =
    record {
      namespace = ns;
      name = n;
      enclosing = outer;
      extends = up;
      interfaces = interfaces;
      kind = kind_of flags;
      is_interface = bit 32 flags;
      is_abstract = bit 64 flags;
      is_lazy = bit 128 flags;
      first_field = ff;
      field_count = fc;
      first_method = mf;
      method_count = mc;
    }

abbrev pub make_field : List ℕ → RawType → FieldKind → FieldRow
make_field n s k = record { name = n; signature = s; kind = k }

abbrev pub make_clause : ℕ → ℕ → ℕ → ℕ → RawKind → RawClause
make_clause a b c d k = record { kind = k; try_start = a; try_end = b; start = c; end = d }

abbrev pub make_method : ℕ → List ℕ → RawSignature → Body × Option RawCode → MethodRow
make_method flags n s b =
    record { name = n; signature = s; is_static = bit 1 flags; is_virtual = bit 2 flags; is_newslot = bit 4 flags; is_abstract = bit 8 flags; body = b.0; code = b.1 }

abbrev pub static_kind : Bool → FieldKind
static_kind true = FieldKind.StaticField
static_kind false = FieldKind.InstanceField

module _ (h : Held) where
  abbrev pub plain_at : ℕ → Option TypeToken
  plain_at w = on_some (h.type w) no_spec

  abbrev pub name_at : ℕ → Option (List ℕ)
  name_at w = on_some (h.text w) name_text

  abbrev pub raw_at : ℕ → Option RawType
  raw_at w = on_some (h.signature w) (whole (read_type plain_at))

  abbrev pub spec_at : List ℕ → Option RawType
  spec_at (w ∷ []) = on_some (raw_at w) only_array
  spec_at _ = None

  abbrev pub signature_at : ℕ → Option RawSignature
  signature_at w = on_some (h.signature w) (whole (read_signature plain_at))

  abbrev pub locals_at : ℕ → Option (List RawType)
  locals_at w = if nat_eq w 65535 then Some [] else on_some (h.signature w) (whole (read_locals plain_at))

  abbrev pub part_at : {A : Type 0} → ℕ → ℕ → List A → Option (List A)
  part_at first count xs = checked (is_range (length xs) first count) (part first count xs)

  abbrev pub assembly_at : List ℕ → Option AssemblyRow
  assembly_at [] = None
  assembly_at (n ∷ version) = option_map (make_assembly_row version) (name_at n)

  abbrev pub ref_at : List ℕ → Option TypeRefRow
  ref_at (s ∷ ns ∷ n ∷ []) = on_both (on_both (option_map make_ref (h.scope s)) (name_at ns)) (name_at n)
  ref_at _ = None

  abbrev pub field_ref_at : List ℕ → Option FieldRefRow
  field_ref_at (p ∷ n ∷ s ∷ []) = on_both (on_both (option_map make_field_ref (h.type p)) (name_at n)) (raw_at s)
  field_ref_at _ = None

  abbrev pub method_ref_at : List ℕ → Option MethodRefRow
  method_ref_at (p ∷ n ∷ s ∷ []) = on_both (on_both (option_map make_method_ref (h.type p)) (name_at n)) (signature_at s)
  method_ref_at _ = None

  abbrev pub type_at : List ℕ → Option TypeRow
  type_at (ns ∷ n ∷ outer ∷ up ∷ flags ∷ fi ∷ ci ∷ ff ∷ cf ∷ fm ∷ cm ∷ []) =
      if is_range h.fields ff cf && is_range h.methods fm cm then
      on_both (on_both (on_both (on_both (option_map (make_type flags ff cf fm cm) (name_at ns)) (name_at n)) (none_or h.row outer)) (none_or h.type up)) (part_at fi ci h.interfaces)
      else None
  type_at _ = None

  abbrev pub field_kind_at : ℕ → ℕ → Option FieldKind
  field_kind_at flags d = if nat_eq d 65535 then Some (static_kind (bit 1 flags)) else option_map FieldKind.DataField (slice_get h.datas d)

  abbrev pub field_at : List ℕ → Option FieldRow
  field_at (n ∷ s ∷ flags ∷ d ∷ []) = on_both (on_both (option_map make_field (name_at n)) (raw_at s)) (field_kind_at flags d)
  field_at _ = None

  abbrev pub interface_at : List ℕ → Option TypeToken
  interface_at (w ∷ []) = h.type w
  interface_at _ = None

  abbrev pub clause_kind_at : ℕ → ℕ → Option RawKind
  clause_kind_at k w = if nat_eq k 2 then checked (nat_eq w 65535) RawFinally else option_map (λ t. if nat_eq k 0 then RawCatch t else RawOther) (h.type w)

  abbrev pub clause_at : List ℕ → Option RawClause
  clause_at (k ∷ w ∷ a ∷ b ∷ c ∷ d ∷ []) = option_map (make_clause a b c d) (clause_kind_at k w)
  clause_at _ = None

  -- what a literal's number means, and a token's in code; there a token need not be in range
  abbrev pub meaning : Meaning
  meaning = record { type = type_token; field = member_token; method = member_token; text = λ w. on_some (h.text w) units_of }

  abbrev pub lines_at : ℕ → ℕ → List RawLine
  lines_at start count = lines_of meaning short 0 (instrs_of row_of short (part start count h.code))

  abbrev pub code_with : ℕ → ℕ → ℕ → List RawType → List RawClause → Option (Body × Option RawCode)
  code_with start count max_stack locals clauses =
      checked (nat_le (start + count) (length h.code) && clauses_nest count clauses && has_room max_stack clauses)
      (Body.Code, Some (record { locals = locals; max_stack = max_stack; clauses = clauses; lines = lines_at start count }))

  abbrev pub no_code : ℕ → List RawClause → Body → Option (Body × Option RawCode)
  no_code count clauses body = checked (nat_eq count 0 && clauses_nest 0 clauses) (body, None)

  abbrev pub body_with : ℕ → ℕ → ℕ → ℕ → List RawType → List RawClause → Option (Body × Option RawCode)
  body_with flags start count max_stack locals clauses =
      if bit 16 flags then no_code count clauses (native_body start)
      else (if nat_eq start 65535 then no_code count clauses Body.Missing else code_with start count max_stack locals clauses)

  abbrev pub body_at : ℕ → ℕ → ℕ → ℕ → ℕ → ℕ → ℕ → Option (Body × Option RawCode)
  body_at flags start count locals max_stack first clauses =
      on_some (locals_at locals) (λ ts. on_some (part_at first clauses h.clauses) (body_with flags start count max_stack ts))

  abbrev pub method_at : List ℕ → Option MethodRow
  method_at (n ∷ s ∷ flags ∷ start ∷ count ∷ locals ∷ max_stack ∷ first ∷ clauses ∷ []) =
      on_both (on_both (option_map (make_method flags) (name_at n)) (signature_at s)) (body_at flags start count locals max_stack first clauses)
  method_at _ = None

-- ---- spelling; where each text and signature has its offset

pub record Offsets : Type 0 where
  pub name : List ℕ → ℕ
  pub literal : List ℕ → ℕ
  pub signature : List ℕ → ℕ

-- what rows don't tell: the opcodes of a method's code, and whether its locals have a row
pub record Manner : Type 0 where
  pub opcodes : List Row
  pub has_locals : Bool

abbrev pub scope_word : Scope → ℕ
scope_word (OfAssembly n) = n
scope_word (Inside n) = 16384 + n
scope_word Nowhere = 65535

abbrev pub data_of : FieldKind → List (List ℕ)
data_of (FieldKind.DataField bytes) = bytes ∷ []
data_of _ = []

module _ (o : Offsets) where
  abbrev pub raw_word : RawType → ℕ
  raw_word s = o.signature (raw_onto s [])

  abbrev pub signature_word : RawSignature → ℕ
  signature_word s = o.signature (signature_onto s [])

  abbrev pub locals_word : Bool → List RawType → ℕ
  locals_word true ts = o.signature (locals_onto ts [])
  locals_word false ts = 65535

  abbrev pub assembly_row : AssemblyRow → List ℕ
  assembly_row a = o.name a.name ∷ a.version

  abbrev pub ref_row : TypeRefRow → List ℕ
  ref_row r = scope_word r.scope ∷ o.name r.namespace ∷ o.name r.name ∷ []

  abbrev pub field_ref_row : FieldRefRow → List ℕ
  field_ref_row r = type_word r.parent ∷ o.name r.name ∷ raw_word r.signature ∷ []

  abbrev pub method_ref_row : MethodRefRow → List ℕ
  method_ref_row r = type_word r.parent ∷ o.name r.name ∷ signature_word r.signature ∷ []

  abbrev pub type_row : ℕ → TypeRow → List ℕ
  type_row at t =
      o.name t.namespace ∷ o.name t.name ∷ or_none (λ n. n) t.enclosing ∷ or_none type_word t.extends ∷ type_flags t.kind t.is_interface t.is_abstract t.is_lazy
      ∷ first_of at (length t.interfaces) ∷ length t.interfaces ∷ t.first_field ∷ t.field_count ∷ t.first_method ∷ t.method_count ∷ []

  abbrev pub type_rows : ℕ → List TypeRow → List (List ℕ)
  type_rows at [] = []
  type_rows at (t ∷ ts) = type_row at t ∷ type_rows (at + length t.interfaces) ts

  abbrev pub interface_row : TypeToken → List ℕ
  interface_row t = type_word t ∷ []

  abbrev pub field_words : ℕ → FieldKind → List ℕ
  field_words n FieldKind.InstanceField = 0 ∷ 65535 ∷ []
  field_words n FieldKind.StaticField = 1 ∷ 65535 ∷ []
  field_words n FieldKind.LiteralField = 1 ∷ 65535 ∷ []
  field_words n (FieldKind.DataField bytes) = 1 ∷ n ∷ []

  abbrev pub field_row : ℕ → FieldRow → List ℕ
  field_row n f = o.name f.name ∷ raw_word f.signature ∷ field_words n f.kind

  abbrev pub field_rows : ℕ → List FieldRow → List (List ℕ)
  field_rows n [] = []
  field_rows n (f ∷ fs) = field_row n f ∷ field_rows (n + length (data_of f.kind)) fs

  abbrev pub clause_words : RawKind → List ℕ
  clause_words (RawCatch t) = 0 ∷ type_word t ∷ []
  clause_words RawFinally = 2 ∷ 65535 ∷ []
  clause_words RawOther = 1 ∷ 65535 ∷ []

  abbrev pub clause_row : RawClause → List ℕ
  clause_row c = clause_words c.kind ++ (c.try_start ∷ c.try_end ∷ c.start ∷ c.end ∷ [])

  abbrev pub spec_row : RawType → List ℕ
  spec_row s = raw_word s ∷ []

  abbrev pub words : Words
  words = record { type = type_word; field = member_word; method = member_word; text = λ units. o.literal units }

  abbrev pub code_bytes : Manner → RawCode → List ℕ
  code_bytes k c = instrs_onto row_of short (instrs_to words k.opcodes c.lines) []

  -- code start, length, locals, max stack, first clause and count
  abbrev pub body_words : ℕ → ℕ → Manner → Body → Option RawCode → List ℕ
  body_words at clause k (Body.Native name) code = native_number name ∷ 0 ∷ 65535 ∷ 0 ∷ 0 ∷ 0 ∷ []
  body_words at clause k body None = 65535 ∷ 0 ∷ 65535 ∷ 0 ∷ 0 ∷ 0 ∷ []
  body_words at clause k body (Some c) =
      at ∷ length (code_bytes k c) ∷ locals_word k.has_locals c.locals ∷ c.max_stack ∷ first_of clause (length c.clauses) ∷ length c.clauses ∷ []

  abbrev pub method_row : ℕ → ℕ → Manner → MethodRow → List ℕ
  method_row at clause k m =
      o.name m.name ∷ signature_word m.signature ∷ method_flags m.is_static m.is_virtual m.is_newslot m.is_abstract (is_native m.body) ∷ body_words at clause k m.body m.code

  abbrev pub bytes_in : Manner → Option RawCode → List ℕ
  bytes_in k None = []
  bytes_in k (Some c) = code_bytes k c

abbrev pub clauses_in : Option RawCode → List RawClause
clauses_in None = []
clauses_in (Some c) = c.clauses

-- methods, each with its manner
module _ (o : Offsets) where
  abbrev pub method_rows : ℕ → ℕ → List (Manner × MethodRow) → List (List ℕ)
  method_rows at clause [] = []
  method_rows at clause (x ∷ xs) = method_row o at clause x.0 x.1 ∷ method_rows (at + length (bytes_in o x.0 x.1.code)) (clause + length (clauses_in x.1.code)) xs

abbrev pub data_rows : ℕ → List (List ℕ) → List (List ℕ)
data_rows at [] = []
data_rows at (d ∷ ds) = (at ∷ length d ∷ []) ∷ data_rows (at + length d) ds

abbrev pub data_at : List ℕ → List ℕ → Option (List ℕ)
data_at pool (at ∷ n ∷ []) = checked (nat_le (at + n) (length pool)) (part at n pool)
data_at pool _ = None
