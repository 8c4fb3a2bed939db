-- What the signatures of an image mean, each token replaced by the class that it names.
use Rattle.std.specs.Prelude.{ℕ, ◌+◌, ◌*◌, Bool, false, nat_eq, nat_lt, if◌then◌else◌, List, [], ◌∷◌, map, length, take, Option, Some, None}
use Rattle.std.specs.List.{prefix_len}
use Rattle.std.specs.Option.{option_map}
use Rattle.machine.specs.Data.{Id}
use Rattle.machine.specs.Throw.{on_some}
use Rattle.classes.specs.Classes.{SigType, Spelt, ClassToken, ValueToken, ArraySig, SigPlace, Direct, ByRef, Signature}
use Rattle.assemblies.specs.Rows.{TypeToken, TypeDef, TypeRef, TypeSpec, RawType, RawSpelt, RawClass, RawValue, RawArray, RawPlace, RawDirect, RawByRef, RawSignature}
use Rattle.assemblies.specs.Binding.{id_at, both_some, all_some}
use Rattle.image_bytes.specs.Layout.{read_word, many}
use Rattle.image_form.specs.Signatures.{type_token, is_end, read_leaf, read_type, read_place, read_result, with_count, read_signature, whole}
use Rattle.image_form.specs.Form.{checked, no_spec}
use Rattle.member_keys.specs.Seen.{class_seen, arrays, element_seen, type_seen, place_seen}
use Rattle.scope_walk.specs.Walk.{value_at}
use Rattle.set_signatures.specs.declared.tokens.Tokens.{Tokens}
use Rattle.set_signatures.specs.declared.parts.ClassRead.{ClassRead}
use Rattle.set_signatures.specs.declared.parts.ElementRead.{ElementRead}
use Rattle.set_signatures.specs.declared.parts.TypeRead.{TypeRead}
use Rattle.set_signatures.specs.declared.parts.PlaceRead.{PlaceRead}
use Rattle.set_signatures.specs.declared.parts.ResultRead.{ResultRead}
use Rattle.set_signatures.specs.declared.parts.PlacesRead.{PlacesRead}

-- ---- tokens

abbrev pub own_named : Tokens → ℕ → Option Id
own_named t n = if nat_lt n t.types then Some (id_at t.file n) else None

abbrev pub class_named : Tokens → TypeToken → Option Id
class_named t (TypeDef n) = own_named t n
class_named t (TypeRef n) = value_at t.references.now n
class_named t (TypeSpec n) = None

-- the row of a token is there
abbrev pub has_row : Tokens → TypeToken → Bool
has_row t (TypeDef n) = nat_lt n t.types
has_row t (TypeRef n) = nat_lt n (length t.references.now)
has_row t (TypeSpec n) = false

-- the token that a word of a signature is
abbrev pub plain_of : Tokens → ℕ → Option TypeToken
plain_of t w = on_some (checked (has_row t (type_token w)) (type_token w)) no_spec

-- ---- what is read

abbrev pub type_meant : Tokens → RawType → Option SigType
type_meant t (RawSpelt e) = Some (Spelt e)
type_meant t (RawClass u) = option_map ClassToken (class_named t u)
type_meant t (RawValue u) = option_map ValueToken (class_named t u)
type_meant t (RawArray s) = option_map ArraySig (type_meant t s)

abbrev pub place_meant : Tokens → RawPlace → Option SigPlace
place_meant t (RawDirect s) = option_map Direct (type_meant t s)
place_meant t (RawByRef s) = option_map ByRef (type_meant t s)

abbrev pub result_meant : Tokens → Option RawType → Option (Option SigType)
result_meant t None = Some None
result_meant t (Some s) = option_map Some (type_meant t s)

abbrev pub joined : Bool → Option SigType → List SigPlace → Signature
joined this r ps = record { has_this = this; returns = r; parameters = ps }

abbrev pub signature_meant : Tokens → RawSignature → Option Signature
signature_meant t s = both_some (joined s.has_this) (result_meant t s.returns) (all_some (place_meant t) s.parameters)

-- what the first bytes mean, with the bytes behind them
abbrev pub then_meant : {A B : Type 0} → (A → Option B) → Option (A × List ℕ) → Option (B × List ℕ)
then_meant meant o = on_some o (λ x. option_map (λ y. (y, x.1)) (meant x.0))

unfoldable pub token_read : Tokens → List ℕ → Option (Id × List ℕ)
token_read t [] = None
token_read t (low ∷ []) = None
token_read t (low ∷ high ∷ rest) = option_map (λ c. (c, rest)) (on_some (plain_of t (low + 256 * high)) (class_named t))

-- ---- the parts, each with the bytes behind it

unfoldable pub leaf_told : Tokens → ℕ → List ℕ → Option (SigType × List ℕ)
leaf_told t code rest = then_meant (type_meant t) (read_leaf (plain_of t) code rest)

unfoldable pub type_told : Tokens → List ℕ → Option (SigType × List ℕ)
type_told t bytes = then_meant (type_meant t) (read_type (plain_of t) bytes)

unfoldable pub place_told : Tokens → List ℕ → Option (SigPlace × List ℕ)
place_told t bytes = then_meant (place_meant t) (read_place (plain_of t) bytes)

unfoldable pub result_told : Tokens → List ℕ → Option (Option SigType × List ℕ)
result_told t bytes = then_meant (result_meant t) (read_result (plain_of t) bytes)

unfoldable pub places_told : Tokens → ℕ → List ℕ → Option (List SigPlace × List ℕ)
places_told t n bytes = then_meant (all_some (place_meant t)) (many (read_place (plain_of t)) n bytes)

abbrev pub with_class : (Id → SigType) → Option (Id × List ℕ) → Option (SigType × List ℕ)
with_class make o = option_map (λ (x : Id × List ℕ). (make x.0, x.1)) o

abbrev pub with_place : Bool → Option (SigType × List ℕ) → Option (SigPlace × List ℕ)
with_place by_ref o = option_map (λ (x : SigType × List ℕ). (if by_ref then ByRef x.0 else Direct x.0, x.1)) o

abbrev pub with_result : Option (SigType × List ℕ) → Option (Option SigType × List ℕ)
with_result o = option_map (λ (x : SigType × List ℕ). (Some x.0, x.1)) o

-- array brackets in front, at most 255
abbrev pub brackets : List ℕ → ℕ
brackets bytes = prefix_len (λ code. nat_eq code 29) (take 255 bytes)

abbrev pub in_brackets : ℕ → Option (SigType × List ℕ) → Option (SigType × List ℕ)
in_brackets n o = option_map (λ (x : SigType × List ℕ). (arrays n x.0, x.1)) o

-- a type behind so many
abbrev pub bracketed : Tokens → ℕ → List ℕ → Option (SigType × List ℕ)
bracketed t n [] = None
bracketed t n (code ∷ rest) = in_brackets n (leaf_told t code rest)

-- what is left after a whole is nothing
abbrev pub whole_of : {A : Type 0} → Option (A × List ℕ) → Option A
whole_of o = on_some o (λ x. if is_end x.1 then Some x.0 else None)

-- behind the mark of a method
unfoldable pub marked_meant : Tokens → Bool → List ℕ → Option Signature
marked_meant t this bytes = on_some (whole_of (on_some (read_word bytes) (with_count (plain_of t) this))) (signature_meant t)

-- a whole signature
unfoldable pub field_told : Tokens → List ℕ → Option SigType
field_told t bytes = on_some (whole (read_type (plain_of t)) bytes) (type_meant t)

unfoldable pub method_told : Tokens → List ℕ → Option Signature
method_told t bytes = on_some (whole (read_signature (plain_of t)) bytes) (signature_meant t)

-- ---- what the code gives

abbrev pub class_read_seen : ClassRead → Id × List ℕ
class_read_seen r = (class_seen r.class, r.rest.now)

abbrev pub element_read_seen : ElementRead → SigType × List ℕ
element_read_seen r = (element_seen r.element, r.rest.now)

abbrev pub type_read_seen : TypeRead → SigType × List ℕ
type_read_seen r = (type_seen r.of, r.rest.now)

abbrev pub place_read_seen : PlaceRead → SigPlace × List ℕ
place_read_seen r = (place_seen r.place, r.rest.now)

abbrev pub result_read_seen : ResultRead → Option SigType × List ℕ
result_read_seen r = (option_map type_seen r.returns, r.rest.now)

abbrev pub places_read_seen : PlacesRead → List SigPlace × List ℕ
places_read_seen r = (map place_seen r.places.items, r.rest.now)
