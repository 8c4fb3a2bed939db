-- Signatures with their tokens as rows (II.23.2). One that has no form is one whose type names nothing, and so equals none.
use Rattle.std.specs.Prelude.{ℕ, zero, suc, Bool, true, false, if◌then◌else◌, List, [], map, Option, Some, None, Ok, Err}
use Rattle.plain_types.specs.declared.elem.Elem.{Elem}
use Rattle.plain_types.specs.declared.elem.Elem.TheVariants.{Void, Class, Value}
use Rattle.file_tables.specs.declared.schema.Coded.TheVariants.{TypeDefOrRef}
use Rattle.file_tables.specs.Metadata.{MetadataPart}
use Rattle.cil_sig.specs.declared.sig.SigType.{SigType}
use Rattle.cil_sig.specs.declared.sig.MethodSig.{MethodSig}
use Rattle.cil_sig.specs.Reading.{Part, whole_field, whole_spec, whole_locals, whole_method}
use Rattle.assemblies.specs.Rows.{RawType, RawSpelt, RawClass, RawValue, RawArray, RawPlace, RawDirect, RawByRef, RawSignature}
use Rattle.world_rows.specs.Tokens.{no_type, coded_type}

abbrev pub raw_element : MetadataPart → Elem → ℕ → RawType
raw_element m Class token = RawClass (coded_type m TypeDefOrRef token)
raw_element m Value token = RawValue (coded_type m TypeDefOrRef token)
raw_element m elem token = RawSpelt elem

abbrev pub in_brackets : ℕ → RawType → RawType
in_brackets zero element = element
in_brackets (suc n) element = RawArray (in_brackets n element)

abbrev pub raw_type : MetadataPart → SigType → RawType
raw_type m s = in_brackets s.ranks (raw_element m s.elem s.token)

abbrev pub raw_place : MetadataPart → SigType → RawPlace
raw_place m s = if s.pointer then RawByRef (raw_type m s) else RawDirect (raw_type m s)

-- void isn't a type of anything else
abbrev pub is_void : Elem → Bool
is_void Void = true
is_void _ = false

abbrev pub raw_result : MetadataPart → SigType → Option RawType
raw_result m s = if is_void s.elem then None else Some (raw_type m s)

abbrev pub faulty_type : MetadataPart → RawType
faulty_type m = RawClass (no_type m)

abbrev pub faulty_signature : MetadataPart → RawSignature
faulty_signature m = record { has_this = false; returns = Some (faulty_type m); parameters = [] }

abbrev pub type_from : MetadataPart → Part SigType → RawType
type_from m (Ok s) = raw_type m s
type_from m (Err left) = faulty_type m

abbrev pub signature_from : MetadataPart → Part MethodSig → RawSignature
signature_from m (Ok s) = record { has_this = s.this; returns = raw_result m s.returns; parameters = map (raw_place m) s.params }
signature_from m (Err left) = faulty_signature m

abbrev pub locals_from : MetadataPart → Part (List SigType) → List RawType
locals_from m (Ok ss) = map (raw_type m) ss
locals_from m (Err left) = []

unfoldable pub field_signature : MetadataPart → List ℕ → RawType
field_signature m blob = type_from m (whole_field blob)

unfoldable pub method_signature : MetadataPart → List ℕ → RawSignature
method_signature m blob = signature_from m (whole_method blob)

unfoldable pub spec_signature : MetadataPart → List ℕ → RawType
spec_signature m blob = type_from m (whole_spec blob)

unfoldable pub locals_signature : MetadataPart → List ℕ → List RawType
locals_signature m blob = locals_from m (whole_locals blob)
