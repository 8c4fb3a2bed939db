-- The table seen as the classes that it tells of.
use Rattle.std.specs.Prelude.{nat_eq, ℕ, List, [], map, Option, Some, None, slice_get, unwrap_or}
use Rattle.std.specs.List.{find}
use Rattle.std.specs.Option.{option_copied, option_map}
use Rattle.machine.specs.Data.{Id}
use Rattle.machine.specs.Program.{native_number, Body, Code, Native, Missing}
use Rattle.machine.specs.Throw.{on_some}
use Rattle.classes.specs.Classes.{FieldKind, InstanceField, StaticField, LiteralField, DataField, OwnField, OwnMethod, TypeKind, Reference, Builtin, Enumeration, OtherValue, Class, Classes}
use Rattle.assemblies.specs.Binding.{id_at, numbered, range}
use Rattle.world_rows.specs.Natives.{NativeRow, natives}
use Rattle.member_keys.specs.Seen.{class_seen, type_seen, signature_seen}
use Rattle.class_table.specs.declared.rows.TypeKind.TheVariants as kind
use Rattle.class_table.specs.declared.rows.TypeKind.{TypeKind as KindColumn}
use Rattle.class_table.specs.declared.rows.FieldKind.TheVariants as field
use Rattle.class_table.specs.declared.rows.FieldKind.{FieldKind as FieldColumn}
use Rattle.class_table.specs.declared.rows.Body.TheVariants as body
use Rattle.class_table.specs.declared.rows.Body.{Body as BodyColumn}
use Rattle.class_table.specs.declared.rows.ClassRow.{ClassRow}
use Rattle.class_table.specs.declared.rows.FieldRow.{FieldRow}
use Rattle.class_table.specs.declared.rows.MethodRow.{MethodRow}
use Rattle.class_table.specs.declared.rows.FileRows.{FileRows}
use Rattle.class_table.specs.declared.rows.ClassTable.{ClassTable}

abbrev pub kind_seen : KindColumn → TypeKind
kind_seen kind.Reference = Reference
kind_seen (kind.Builtin e) = Builtin e
kind_seen (kind.Enumeration e) = Enumeration e
kind_seen kind.OtherValue = OtherValue

abbrev pub field_kind_seen : FieldColumn → FieldKind
field_kind_seen field.Instance = InstanceField
field_kind_seen field.Static = StaticField
field_kind_seen field.Literal = LiteralField
field_kind_seen (field.Data bytes) = DataField (unwrap_or (option_copied bytes) [])

-- the native of a number, if there is one
abbrev pub native_seen : ℕ → Body
native_seen n = unwrap_or (option_map (λ (r : NativeRow). Native r.number) (find (λ (r : NativeRow). nat_eq (native_number r.number) n) natives)) Missing

abbrev pub body_seen : BodyColumn → Body
body_seen body.Code = Code
body_seen (body.Native n) = native_seen n
body_seen body.Missing = Missing

abbrev pub field_seen : ℕ → ℕ → FieldRow → OwnField
field_seen file n f = record { id = id_at file n; name = f.name.now; signature = option_map type_seen f.signature; kind = field_kind_seen f.kind }

abbrev pub method_seen : ℕ → ℕ → MethodRow → OwnMethod
method_seen file n m =
    record {
      id = id_at file n;
      name = m.name.now;
      signature = option_map signature_seen m.signature;
      is_static = m.is_static;
      is_virtual = m.is_virtual;
      is_newslot = m.is_newslot;
      is_abstract = m.is_abstract;
      body = body_seen m.body;
    }

abbrev pub row_seen : ℕ → FileRows → ClassRow → Class
row_seen file f c =
    record {
      namespace = c.namespace.now;
      name = c.name.now;
      enclosing = option_map (id_at file) c.enclosing;
      superclass = option_map class_seen c.superclass;
      interfaces = map class_seen c.interfaces.items;
      kind = kind_seen c.kind;
      is_interface = c.is_interface;
      is_abstract = c.is_abstract;
      is_lazy = c.is_lazy;
      fields = numbered (field_seen file) c.first_field (range c.first_field c.field_count f.fields.items);
      methods = numbered (method_seen file) c.first_method (range c.first_method c.method_count f.methods.items);
    }

-- the rows of a table, whether a type has them or not
abbrev pub field_row : ClassTable → Id → Option OwnField
field_row t c = on_some (slice_get t.files.items c.file) (λ f. option_map (field_seen c.file c.row) (slice_get f.fields.items c.row))

abbrev pub method_row : ClassTable → Id → Option OwnMethod
method_row t c = on_some (slice_get t.files.items c.file) (λ f. option_map (method_seen c.file c.row) (slice_get f.methods.items c.row))

abbrev pub class_row : ClassTable → Id → Option Class
class_row t c = on_some (slice_get t.files.items c.file) (λ f. option_map (row_seen c.file f) (slice_get f.classes.items c.row))

abbrev pub field_owner : ClassTable → Id → Option Id
field_owner t c = on_some (slice_get t.files.items c.file) (λ f. on_some (slice_get f.fields.items c.row) (λ x. option_map (id_at c.file) x.owner))

abbrev pub method_owner : ClassTable → Id → Option Id
method_owner t c = on_some (slice_get t.files.items c.file) (λ f. on_some (slice_get f.methods.items c.row) (λ x. option_map (id_at c.file) x.owner))

abbrev pub library_rows : ClassTable → List Id
library_rows t = unwrap_or (on_some t.library (λ file. option_map (λ (f : FileRows). numbered (λ n c. id_at file n) 0 f.classes.items) (slice_get t.files.items file))) []

abbrev pub classes_seen : ClassTable → Classes
classes_seen t = record { size = t.size; class = class_row t; method_owner = method_owner t; field_owner = field_owner t; library = library_rows t }
