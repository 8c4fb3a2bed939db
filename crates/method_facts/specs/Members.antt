-- What the rows of fields and methods tell, with types spelt as those of places.
use Rattle.std.specs.Prelude.{◌≡◌, ℕ, Bool, false, ◌++◌, length, map, is_some, Option, Some, None, slice_get, unwrap_or}
use Rattle.std.specs.Option.{option_map}
use Rattle.file_tables.specs.Bytes.{has_bit}
use Rattle.machine.specs.Data.{Id}
use Rattle.classes.specs.Classes.{Classes, Class, OwnField, OwnMethod, SigType, Signature}
use Rattle.classes.specs.Queries.{field_at, method_at, place_of, type_of}
use Rattle.classes.specs.Listed.{is_constructor, this_before}
use Rattle.assemblies.specs.Binding.{id_at}
use Rattle.class_rules.specs.Rules.{holds_some}
use Rattle.member_keys.specs.Seen.{class_seen, signature_seen}
use Rattle.class_table.specs.declared.rows.FileRows.{FileRows}
use Rattle.class_table.specs.declared.rows.MethodRow.{MethodRow}
use Rattle.class_table.specs.declared.rows.ClassTable.{ClassTable}
use Rattle.class_table.specs.Seen.{classes_seen, field_seen}
use Rattle.class_targets.specs.Owned.{method_found}
use Rattle.ecma_effects.specs.Known.{is_unmade, without_bytes}
use Rattle.verify_ops.specs.declared.facts.FieldOperand.{FieldOperand}
use Rattle.verify_ops.specs.declared.facts.MethodOperand.{MethodOperand}
use Rattle.verify_ops.specs.Facts.{kind_of}
use Rattle.method_facts.specs.Places.{class_to, place_to, result_to, type_to}
use Rattle.method_facts.specs.declared.field.OwnedField.{OwnedField}
use Rattle.method_facts.specs.declared.method.MethodPlaces.{MethodPlaces}

-- ---- a field that its class has

abbrev pub OwnsField : ClassTable → Id → Option OwnedField → Type 0
OwnsField t id None = field_at (classes_seen t) id ≡ None
OwnsField t id (Some o) = ((classes_seen t).field_owner id ≡ Some (class_seen o.owner)) × (field_at (classes_seen t) id ≡ Some (field_seen id.file id.row o.row))

pub record IsField (cs : Classes) (id : Id) (f : FieldOperand) : Type 0 where
  pub owner : Id
  pub own : OwnField
  pub signature : SigType
  pub owner_is : cs.field_owner id ≡ Some owner
  pub own_is : field_at cs id ≡ Some own
  pub signed : own.signature ≡ Some signature
  pub class : f.class ≡ class_to cs owner
  pub type : f.of ≡ type_to (type_of cs signature)
  pub kind : kind_of f ≡ without_bytes own.kind

abbrev pub is_field : Classes → Id → Bool
is_field cs id = holds_some (field_at cs id) (λ f. is_some f.signature)

-- a field with a signature
abbrev pub FieldTold : Classes → Id → Option FieldOperand → Type 0
FieldTold cs id None = is_field cs id ≡ false
FieldTold cs id (Some f) = IsField cs id f

-- ---- a method that its class has

-- the flags of a class that are asked for, where the class of arrays is known
pub record Flagged (cs : Classes) (arrays : Option Id) (c : Id) (flags : ℕ) : Type 0 where
  pub class : Class
  pub class_is : cs.class c ≡ Some class
  pub unmade : has_bit flags 7 ≡ is_unmade arrays c class
  pub interface : has_bit flags 5 ≡ class.is_interface

abbrev pub ClassFlagged : Classes → Option Id → Id → Option ℕ → Type 0
ClassFlagged cs arrays c None = cs.class c ≡ None
ClassFlagged cs arrays c (Some flags) = Flagged cs arrays c flags

pub record IsMethod (cs : Classes) (arrays : Option Id) (id : Id) (m : MethodOperand) : Type 0 where
  pub owner : Id
  pub own : OwnMethod
  pub signature : Signature
  pub owner_is : cs.method_owner id ≡ Some owner
  pub own_is : method_at cs id ≡ Some own
  pub signed : own.signature ≡ Some signature
  pub class : m.class ≡ class_to cs owner
  pub class_flags : Flagged cs arrays owner m.class_flags
  pub constructor : m.constructor ≡ is_constructor own
  pub this : m.this ≡ signature.has_this
  pub params : m.params.now ≡ map place_to (map (place_of cs) signature.parameters)
  pub returns : m.returns ≡ result_to (option_map (type_of cs) signature.returns)
  pub static : has_bit m.flags 4 ≡ own.is_static
  pub abstract : has_bit m.flags 10 ≡ own.is_abstract

abbrev pub is_method : Classes → Id → Bool
is_method cs id = holds_some (method_at cs id) (λ m. is_some m.signature)

-- a method with a signature
abbrev pub MethodTold : Classes → Option Id → Id → Option MethodOperand → Type 0
MethodTold cs arrays id None = is_method cs id ≡ false
MethodTold cs arrays id (Some m) = IsMethod cs arrays id m

-- ---- the places of a method

-- the class that has it, or a row behind all classes of its file
abbrev pub owner_or_none : ClassTable → ℕ → Option ℕ → Id
owner_or_none t file owner = id_at file (unwrap_or owner (unwrap_or (option_map (λ (f : FileRows). length f.classes.items) (slice_get t.files.items file)) 0))

pub record ArePlaces (t : ClassTable) (id : Id) (p : MethodPlaces) : Type 0 where
  pub row : MethodRow
  pub signature : Signature
  pub row_is : method_found t id ≡ Some row
  pub signed : option_map signature_seen row.signature ≡ Some signature
  pub arguments : p.arguments.items ≡ map place_to (this_before (classes_seen t) (owner_or_none t id.file row.owner) signature ++ map (place_of (classes_seen t)) signature.parameters)
  pub result : p.result ≡ result_to (option_map (type_of (classes_seen t)) signature.returns)

-- of a method with a signature, whether a class has it or not
abbrev pub PlacesTold : ClassTable → Id → Option MethodPlaces → Type 0
PlacesTold t id None = holds_some (method_found t id) (λ m. is_some m.signature) ≡ false
PlacesTold t id (Some p) = ArePlaces t id p
