-- Tokens and signatures of an image: how they are spelt, and how they are read.
use Rattle.std.specs.Prelude.{◌≡◌, ℕ, zero, suc, ◌+◌, ◌-◌, Bool, true, false, nat_eq, nat_lt, if◌then◌else◌, List, [], ◌∷◌, length, Option, Some, None, slice_get, unwrap_or}
use Rattle.plain_types.specs.declared.elem.Elem.{Elem}
use Rattle.plain_types.specs.declared.elem.Elem.TheVariants as elem
use Rattle.machine.specs.Throw.{on_some}
use Rattle.image_bytes.specs.Layout.{all_onto, word_onto, Reader, read_word, many}
use Rattle.assemblies.specs.Rows.{TypeToken, TypeDef, TypeRef, TypeSpec, MemberToken, Own, Reference, RawType, RawSpelt, RawClass, RawValue, RawArray, RawPlace, RawDirect, RawByRef, RawSignature}
use Rattle.assemblies.specs.Closed.{Each}

-- ---- tokens of two bytes

abbrev pub type_word : TypeToken → ℕ
type_word (TypeDef n) = n
type_word (TypeRef n) = 16384 + n
type_word (TypeSpec n) = 32768 + n

abbrev pub type_token : ℕ → TypeToken
type_token w = if nat_lt w 16384 then TypeDef w else (if nat_lt w 32768 then TypeRef (w - 16384) else TypeSpec (w - 32768))

abbrev pub member_word : MemberToken → ℕ
member_word (Own n) = n
member_word (Reference n) = 16384 + n

abbrev pub member_token : ℕ → MemberToken
member_token w = if nat_lt w 16384 then Own w else Reference (w - 16384)

-- ---- elements

abbrev pub elem_byte : Elem → ℕ
elem_byte elem.Void = 1
elem_byte elem.Bool = 2
elem_byte elem.Char = 3
elem_byte elem.I1 = 4
elem_byte elem.U1 = 5
elem_byte elem.I2 = 6
elem_byte elem.U2 = 7
elem_byte elem.I4 = 8
elem_byte elem.U4 = 9
elem_byte elem.I8 = 10
elem_byte elem.U8 = 11
elem_byte elem.String = 14
elem_byte elem.Value = 17
elem_byte elem.Class = 18
elem_byte elem.Object = 28

-- those that a byte alone spells
abbrev pub elems : List (Option Elem)
elems =
    None ∷ None ∷ Some elem.Bool ∷ Some elem.Char ∷ Some elem.I1 ∷ Some elem.U1 ∷ Some elem.I2 ∷ Some elem.U2 ∷ Some elem.I4 ∷ Some elem.U4 ∷ Some elem.I8 ∷ Some elem.U8
    ∷ None ∷ None ∷ Some elem.String ∷ None ∷ None ∷ None ∷ None ∷ None ∷ None ∷ None ∷ None ∷ None ∷ None ∷ None ∷ None ∷ None ∷ Some elem.Object ∷ []

abbrev pub elem_at : ℕ → Option Elem
elem_at b = unwrap_or (slice_get elems b) None

-- ---- spelling

abbrev pub raw_onto : RawType → List ℕ → List ℕ
raw_onto (RawSpelt e) rest = elem_byte e ∷ rest
raw_onto (RawClass t) rest = 18 ∷ word_onto (type_word t) rest
raw_onto (RawValue t) rest = 17 ∷ word_onto (type_word t) rest
raw_onto (RawArray s) rest = 29 ∷ raw_onto s rest

abbrev pub place_onto : RawPlace → List ℕ → List ℕ
place_onto (RawDirect s) rest = raw_onto s rest
place_onto (RawByRef s) rest = 16 ∷ raw_onto s rest

abbrev pub result_onto : Option RawType → List ℕ → List ℕ
result_onto None rest = 1 ∷ rest
result_onto (Some s) rest = raw_onto s rest

abbrev pub signature_onto : RawSignature → List ℕ → List ℕ
signature_onto s rest =
    (if s.has_this then 32 else 0) ∷ word_onto (length s.parameters) (result_onto s.returns (all_onto place_onto s.parameters rest))

abbrev pub locals_onto : List RawType → List ℕ → List ℕ
locals_onto ts rest = word_onto (length ts) (all_onto raw_onto ts rest)

-- ---- reading; a word is read as the token that it is, where it may stand in a signature

module _ (name : ℕ → Option TypeToken) where
  abbrev pub read_named : (TypeToken → RawType) → Reader RawType
  read_named make bytes = on_some (read_word bytes) (λ w. on_some (name w.0) (λ t. Some (make t, w.1)))

  abbrev pub read_leaf : ℕ → Reader RawType
  read_leaf b rest =
      if nat_eq b 18 then read_named RawClass rest
      else (if nat_eq b 17 then read_named RawValue rest else on_some (elem_at b) (λ e. Some (RawSpelt e, rest)))

  abbrev pub read_without : Reader RawType
  read_without [] = None
  read_without (b ∷ rest) = read_leaf b rest

  abbrev pub read_within : Reader RawType → Reader RawType
  read_within read [] = None
  read_within read (b ∷ rest) = if nat_eq b 29 then on_some (read rest) (λ x. Some (RawArray x.0, x.1)) else read_leaf b rest

  -- with at most so many 1D in a row
  abbrev pub read_raw : ℕ → Reader RawType
  read_raw zero bytes = read_without bytes
  read_raw (suc n) bytes = read_within (read_raw n) bytes

  abbrev pub read_type : Reader RawType
  read_type bytes = read_raw 255 bytes

  abbrev pub read_place : Reader RawPlace
  read_place [] = None
  read_place (b ∷ rest) =
      if nat_eq b 16 then on_some (read_type rest) (λ x. Some (RawByRef x.0, x.1))
      else on_some (read_type (b ∷ rest)) (λ x. Some (RawDirect x.0, x.1))

  abbrev pub read_result : Reader (Option RawType)
  read_result [] = None
  read_result (b ∷ rest) = if nat_eq b 1 then Some (None, rest) else on_some (read_type (b ∷ rest)) (λ x. Some (Some x.0, x.1))

  abbrev pub with_returns : Bool → ℕ → Option RawType × List ℕ → Option (RawSignature × List ℕ)
  with_returns this n x = on_some (many read_place n x.1) (λ ps. Some (record { has_this = this; returns = x.0; parameters = ps.0 }, ps.1))

  abbrev pub with_count : Bool → ℕ × List ℕ → Option (RawSignature × List ℕ)
  with_count this x = on_some (read_result x.1) (with_returns this x.0)

  abbrev pub read_signature : Reader RawSignature
  read_signature [] = None
  read_signature (b ∷ rest) =
      if nat_eq b 32 then on_some (read_word rest) (with_count true) else (if nat_eq b 0 then on_some (read_word rest) (with_count false) else None)

  abbrev pub read_locals : Reader (List RawType)
  read_locals bytes = on_some (read_word bytes) (λ n. many read_type n.0 n.1)

-- nothing may follow
abbrev pub is_end : List ℕ → Bool
is_end [] = true
is_end (b ∷ bytes) = false

abbrev pub whole : {A : Type 0} → Reader A → List ℕ → Option A
whole read bytes = on_some (read bytes) (λ x. if is_end x.1 then Some x.0 else None)

-- ---- what has a spelling: each element that stands alone has a byte, each token is read from its word, and 1D stands at most 255 times

abbrev pub depth : RawType → ℕ
depth (RawArray s) = 1 + depth s
depth _ = 0

module _ (name : ℕ → Option TypeToken) where
  abbrev pub IsNamed : RawType → Type 0
  IsNamed (RawSpelt e) = elem_at (elem_byte e) ≡ Some e
  IsNamed (RawClass t) = name (type_word t) ≡ Some t
  IsNamed (RawValue t) = name (type_word t) ≡ Some t
  IsNamed (RawArray s) = IsNamed s

  pub record HasSpelling (t : RawType) : Type 0 where
    pub shallow : nat_lt 255 (depth t) ≡ false
    pub named : IsNamed t

  abbrev pub PlaceHas : RawPlace → Type 0
  PlaceHas (RawDirect s) = HasSpelling s
  PlaceHas (RawByRef s) = HasSpelling s

  abbrev pub ResultHas : Option RawType → Type 0
  ResultHas None = Unit {0}
  ResultHas (Some s) = HasSpelling s

module _ (name : ℕ → Option TypeToken) where
  pub record SignatureHas (s : RawSignature) : Type 0 where
    pub returns : ResultHas name s.returns
    pub parameters : Each (PlaceHas name) s.parameters
