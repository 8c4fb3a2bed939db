-- Words and signatures of small numbers have bytes.
use Rattle.std.proofs.Common.{ℕ, ◌<◌, ◌≤◌, Bool, true, false, List, [], ◌∷◌, length, Option, Some, None, arith}
use Rattle.std.specs.Prelude.{if◌then◌else◌}
use Rattle.std.proofs.Math.Nat.{mod-lt, div-lt_iff_lt-mul}
use Rattle.plain_types.specs.declared.elem.Elem.{Elem}
use Rattle.plain_types.specs.declared.elem.Elem.TheVariants as elem
use Rattle.classes.specs.Classes.{TypeKind}
use Rattle.assemblies.specs.Rows.{TypeToken, TypeDef, TypeRef, TypeSpec, Scope, OfAssembly, Inside, Nowhere, RawType, RawSpelt, RawClass, RawValue, RawArray, RawPlace, RawDirect, RawByRef, RawSignature}
use Rattle.assemblies.specs.Closed.{Each}
use Rattle.kept_closure.specs.Named.{InOption, InPlace}
use Rattle.image_bytes.specs.Layout.{all_onto, word_onto}
use Rattle.image_form.specs.Signatures.{type_word, elem_byte, raw_onto, place_onto, result_onto, signature_onto, locals_onto}
use Rattle.image_form.specs.Form.{or_none, scope_word, bit_word, is_reference_elem, kind_word, type_flags, method_flags}
use Rattle.image_form.specs.Limits.{TypeIsSmall}
use Rattle.fitting_parts.specs.Small.{IsSmall, ScopeIsSmall, RawIsSmall, SignatureIsSmall}

abbrev pub IsByte : ℕ → Type 0
IsByte b = b < 256

-- ---- words

pub word_small : (t : TypeToken) → TypeIsSmall t → IsSmall (type_word t)
word_small (TypeDef n) h = omega (arith, h)
word_small (TypeRef n) h = omega (arith, h)
word_small (TypeSpec n) h = omega (arith, h)

pub scope_small : (s : Scope) → ScopeIsSmall s → IsSmall (scope_word s)
scope_small (OfAssembly n) h = omega (arith, h)
scope_small (Inside n) h = omega (arith, h)
scope_small Nowhere h = omega arith

pub or_none_small : {A : Type 0} (P : A → Type 0) (word : A → ℕ) → ((x : A) → P x → IsSmall (word x)) → (o : Option A) → InOption P o → IsSmall (or_none word o)
or_none_small P word small None h = omega arith
or_none_small P word small (Some x) h = small x h

elem_small : (e : Elem) → elem_byte e < 29
elem_small elem.Void = omega arith
elem_small elem.Bool = omega arith
elem_small elem.Char = omega arith
elem_small elem.I1 = omega arith
elem_small elem.U1 = omega arith
elem_small elem.I2 = omega arith
elem_small elem.U2 = omega arith
elem_small elem.I4 = omega arith
elem_small elem.U4 = omega arith
elem_small elem.I8 = omega arith
elem_small elem.U8 = omega arith
elem_small elem.String = omega arith
elem_small elem.Value = omega arith
elem_small elem.Class = omega arith
elem_small elem.Object = omega arith

either : (b : Bool) → (if b then 0 else 512) ≤ 512
either true = omega arith
either false = omega arith

kind_small : (k : TypeKind) → kind_word k < 1024
kind_small TypeKind.Reference = omega arith
kind_small (TypeKind.Builtin e) = omega (arith, elem_small e, either (is_reference_elem e))
kind_small (TypeKind.Enumeration e) = omega (arith, elem_small e)
kind_small TypeKind.OtherValue = omega arith

bit_small : (b : Bool) → bit_word b ≤ 1
bit_small true = omega arith
bit_small false = omega arith

pub type_flags_small : (k : TypeKind) (a b c : Bool) → IsSmall (type_flags k a b c)
type_flags_small k a b c = omega (arith, kind_small k, bit_small a, bit_small b, bit_small c)

pub method_flags_small : (a b c d e : Bool) → IsSmall (method_flags a b c d e)
method_flags_small a b c d e = omega (arith, bit_small a, bit_small b, bit_small c, bit_small d, bit_small e)

-- ---- bytes

pub word_bytes : (n : ℕ) (rest : List ℕ) → IsSmall n → Each IsByte rest → Each IsByte (word_onto n rest)
word_bytes n rest small h = (mod-lt n (omega arith), ((div-lt_iff_lt-mul {k = 256} {x = n} {y = 256} (omega arith)).1 small, h))

all_bytes : {A : Type 0} (P : A → Type 0) (onto : A → List ℕ → List ℕ) → ((x : A) (rest : List ℕ) → P x → Each IsByte rest → Each IsByte (onto x rest)) → (xs : List A) (rest : List ℕ) → Each P xs → Each IsByte rest → Each IsByte (all_onto onto xs rest)
all_bytes P onto step [] rest each h = h
all_bytes P onto step (x ∷ xs) rest each h = step x (all_onto onto xs rest) each.0 (all_bytes P onto step xs rest each.1 h)

pub raw_bytes : (s : RawType) (rest : List ℕ) → RawIsSmall s → Each IsByte rest → Each IsByte (raw_onto s rest)
raw_bytes (RawSpelt e) rest small h = (omega (arith, elem_small e), h)
raw_bytes (RawClass t) rest small h = (omega arith, word_bytes (type_word t) rest (word_small t small) h)
raw_bytes (RawValue t) rest small h = (omega arith, word_bytes (type_word t) rest (word_small t small) h)
raw_bytes (RawArray s) rest small h = (omega arith, raw_bytes s rest small h)

place_bytes : (s : RawPlace) (rest : List ℕ) → InPlace TypeIsSmall s → Each IsByte rest → Each IsByte (place_onto s rest)
place_bytes (RawDirect s) rest small h = raw_bytes s rest small h
place_bytes (RawByRef s) rest small h = (omega arith, raw_bytes s rest small h)

result_bytes : (o : Option RawType) (rest : List ℕ) → InOption RawIsSmall o → Each IsByte rest → Each IsByte (result_onto o rest)
result_bytes None rest small h = (omega arith, h)
result_bytes (Some s) rest small h = raw_bytes s rest small h

this_byte : (b : Bool) → IsByte (if b then 32 else 0)
this_byte true = omega arith
this_byte false = omega arith

pub signature_bytes : (s : RawSignature) → SignatureIsSmall s → Each IsByte (signature_onto s [])
signature_bytes s small =
    let parameters = all_bytes (InPlace TypeIsSmall) place_onto place_bytes s.parameters [] small.tokens.1 tt in (
      this_byte s.has_this,
      word_bytes (length s.parameters) (result_onto s.returns (all_onto place_onto s.parameters [])) small.parameters (result_bytes s.returns (all_onto place_onto s.parameters []) small.tokens.0 parameters),
    )

pub locals_bytes : (ts : List RawType) → IsSmall (length ts) → Each RawIsSmall ts → Each IsByte (locals_onto ts [])
locals_bytes ts few small = word_bytes (length ts) (all_onto raw_onto ts []) few (all_bytes RawIsSmall raw_onto raw_bytes ts [] small tt)
