-- The natives of a world: what the table of them says, and what its rows mean there.
use Rattle.std.specs.Prelude.{◌≡◌, ℕ, Bool, ◌&&◌, is_none, List, map, Option, Some, None, codes}
use Rattle.std.specs.Option.{option_map}
use Rattle.plain_types.specs.declared.elem.Elem.TheVariants as elem
use Rattle.file_tables.specs.File.{FilePart}
use Rattle.machine.specs.Data.{Id}
use Rattle.machine.specs.Program.{Body, Native, Missing}
use Rattle.machine.specs.Texts.{same_text}
use Rattle.classes.specs.Classes.{SigType, Spelt, ClassToken, ValueToken, ArraySig, SigPlace, Direct, Signature}
use Rattle.classes.specs.Queries.{method_signature_eq, some_eq}
use Rattle.assemblies.specs.Rows.{Nowhere}
use Rattle.assemblies.specs.Binding.{type_in, all_some}
use Rattle.world_rows.specs.Natives as world
use Rattle.world_rows.specs.World.{rows_alone}
use Rattle.member_keys.specs.Seen.{class_seen, signature_seen}
use Rattle.class_table.specs.declared.rows.ClassRow.{ClassRow}
use Rattle.class_table.specs.Seen.{native_seen}
use Rattle.member_reading.specs.declared.native.NativeType.{NativeType}
use Rattle.member_reading.specs.declared.native.NativeType.TheVariants as type
use Rattle.member_reading.specs.declared.native.NativeRow.{NativeRow}
use Rattle.member_reading.specs.declared.native.NativeMember.{NativeMember}
use Rattle.member_reading.specs.declared.native.KnownClasses.{KnownClasses}

-- the first type of a file with the names, nested in none
abbrev pub type_named : List FilePart → ℕ → List ℕ → List ℕ → Option Id
type_named files file namespace name = type_in (rows_alone files) file None (record { scope = Nowhere; namespace = namespace; name = name })

-- whether a type has the names, nested in none
abbrev pub is_class : List ℕ → List ℕ → ClassRow → Bool
is_class namespace name c = is_none c.enclosing && (same_text namespace c.namespace.now && same_text name c.name.now)

-- the classes that signatures of natives name
pub record Known : Type 0 where
  pub array : Option Id
  pub field_handle : Option Id

abbrev pub knows : KnownClasses → Known
knows k = record { array = option_map class_seen k.array; field_handle = option_map class_seen k.field_handle }

abbrev pub known_in : List FilePart → Known
known_in files = record { array = type_named files 0 (codes "System") (codes "Array"); field_handle = type_named files 0 (codes "System") (codes "RuntimeFieldHandle") }

abbrev pub type_shown : Known → NativeType → Option SigType
type_shown k (type.Plain e) = Some (Spelt e)
type_shown k type.Characters = Some (ArraySig (Spelt elem.Char))
type_shown k type.AnyArray = option_map ClassToken k.array
type_shown k type.FieldHandle = option_map ValueToken k.field_handle

abbrev pub place_of_native : Known → NativeType → Option SigPlace
place_of_native k t = option_map Direct (type_shown k t)

abbrev pub signature_of_native : Known → NativeRow → Option Signature
signature_of_native k r =
    option_map (λ parameters. record { has_this = r.has_this; returns = option_map Spelt r.returns; parameters = parameters }) (all_some (place_of_native k) r.parameters.now)

-- a native of a world
pub record Shown : Type 0 where
  pub body : Body
  pub name : List ℕ
  pub owner : Option Id
  pub signature : Option Signature

abbrev pub native_shown : NativeMember → Shown
native_shown m = record { body = native_seen m.number; name = m.name.now; owner = option_map class_seen m.owner; signature = option_map signature_seen m.signature }

-- by a row of the table
abbrev pub native_read : List FilePart → NativeRow → Shown
native_read files r =
    record { body = native_seen r.number; name = r.name.now; owner = type_named files r.file r.namespace.now r.class.now; signature = signature_of_native (known_in files) r }

-- by a row of the definition
abbrev pub native_meant : List FilePart → world.NativeRow → Shown
native_meant files r =
    record { body = Native r.number; name = r.name; owner = world.type_of_native (rows_alone files) r; signature = world.signature_meant (rows_alone files) r }

abbrev pub AreNatives : List FilePart → List NativeMember → Type 0
AreNatives files members = map native_shown members ≡ map (native_meant files) world.natives

-- whether a method of a name, a class and a signature is the native
abbrev pub is_native : List ℕ → Option Id → Option Signature → Shown → Bool
is_native name owner signature s = same_text name s.name && (some_eq owner s.owner && method_signature_eq signature s.signature)

abbrev pub body_of : Option Shown → Body
body_of (Some s) = s.body
body_of None = Missing
