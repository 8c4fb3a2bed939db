-- The rows of types and members of an image as the rows of an assembly.
use Rattle.std.specs.Prelude.{ℕ, nat_eq, nat_lt, if◌then◌else◌, List, map, Option, Some, None, slice_index}
use Rattle.std.specs.Option.{option_map}
use Rattle.machine.specs.Program.{Body, Code, Missing}
use Rattle.machine.specs.Throw.{on_some}
use Rattle.classes.specs.Classes.{FieldKind, DataField}
use Rattle.assemblies.specs.Rows.{TypeToken, RawType, RawSignature, FieldRefRow, MethodRefRow, TypeRow, FieldRow, MethodRow}
use Rattle.image_bytes.specs.Layout.{Image, rows_of}
use Rattle.image_form.specs.Signatures.{type_token, read_type, read_signature, whole}
use Rattle.image_form.specs.Form.{part, bit, checked, native_body, no_spec, static_kind}
use Rattle.image_form.specs.Whole.{table, token_in}
use Rattle.msspot_read.specs.Rows.{data_of}
use Rattle.class_table.specs.Seen.{kind_seen, field_kind_seen, body_seen}
use Rattle.tiny_members.specs.declared.types.TypeToken.{TypeToken as Token}
use Rattle.tiny_members.specs.declared.types.TypeDef.{TypeDef}
use Rattle.tiny_members.specs.declared.fields.FieldDef.{FieldDef}
use Rattle.tiny_members.specs.declared.methods.MethodDef.{MethodDef}
use Rattle.tiny_members.specs.declared.references.MemberRef.{MemberRef}

-- ---- tokens and signatures

abbrev pub token_seen : Token → TypeToken
token_seen t = type_token t.0

-- a token, or none
abbrev pub token_word : ℕ → Option TypeToken
token_word w = if nat_eq w 65535 then None else Some (type_token w)

abbrev pub plain_in : Image → ℕ → Option TypeToken
plain_in i w = on_some (token_in i w) no_spec

-- the signatures that bytes spell
abbrev pub field_type_in : Image → List ℕ → Option RawType
field_type_in i bytes = whole (read_type (plain_in i)) bytes

abbrev pub method_type_in : Image → List ℕ → Option RawSignature
method_type_in i bytes = whole (read_signature (plain_in i)) bytes

-- ---- types

-- the interfaces that types name, all in one list
abbrev pub interfaces_seen : Image → List TypeToken
interfaces_seen i = map (λ row. type_token (slice_index row 0)) (table i 5)

abbrev pub type_seen : Image → TypeDef → TypeRow
type_seen i t =
    record {
      namespace = t.namespace.now;
      name = t.name.now;
      enclosing = t.enclosing;
      extends = option_map token_seen t.extends;
      interfaces = part t.interfaces.first t.interfaces.count (interfaces_seen i);
      kind = kind_seen t.kind;
      is_interface = t.is_interface;
      is_abstract = t.is_abstract;
      is_lazy = t.is_lazy;
      first_field = t.fields.first;
      field_count = t.fields.count;
      first_method = t.methods.first;
      method_count = t.methods.count;
    }

-- ---- fields

abbrev pub field_kind_in : Image → ℕ → ℕ → Option FieldKind
field_kind_in i flags d = if nat_eq d 65535 then Some (static_kind (bit 1 flags)) else checked (nat_lt d (rows_of i 10)) (DataField (data_of i d))

abbrev pub field_of : FieldDef → RawType → FieldRow
field_of f s = record { name = f.name.now; signature = s; kind = field_kind_seen f.kind }

abbrev pub field_seen : Image → FieldDef → Option FieldRow
field_seen i f = option_map (field_of f) (field_type_in i f.signature.now)

-- ---- methods

-- what runs, by flags and start
abbrev pub body_told : ℕ → ℕ → Body
body_told flags start = if bit 16 flags then native_body start else (if nat_eq start 65535 then Missing else Code)

abbrev pub method_of : MethodDef → RawSignature → MethodRow
method_of m s =
    record {
      name = m.name.now;
      signature = s;
      is_static = m.is_static;
      is_virtual = m.is_virtual;
      is_newslot = m.is_newslot;
      is_abstract = m.is_abstract;
      body = body_seen m.body;
      code = None;
    }

abbrev pub method_seen : Image → MethodDef → Option MethodRow
method_seen i m = option_map (method_of m) (method_type_in i m.signature.now)

abbrev pub without_code : MethodRow → MethodRow
without_code m = record m { code = None }

-- ---- references

abbrev pub field_ref_of : MemberRef → RawType → FieldRefRow
field_ref_of r s = record { parent = token_seen r.parent; name = r.name.now; signature = s }

abbrev pub field_ref_seen : Image → MemberRef → Option FieldRefRow
field_ref_seen i r = option_map (field_ref_of r) (field_type_in i r.signature.now)

abbrev pub method_ref_of : MemberRef → RawSignature → MethodRefRow
method_ref_of r s = record { parent = token_seen r.parent; name = r.name.now; signature = s }

abbrev pub method_ref_seen : Image → MemberRef → Option MethodRefRow
method_ref_seen i r = option_map (method_ref_of r) (method_type_in i r.signature.now)
