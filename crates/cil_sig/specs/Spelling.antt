-- What bytes spell a signature, apart from how they are read (ECMA-335 II.23.2).
use Rattle.std.specs.Prelude.{◌≡◌, ℕ, ◌%◌, ◌<◌, ◌≤◌, Bool, true, false, List, [], ◌∷◌, ◌++◌, length, replicate, Some, MatchBool, ◌⊎◌}
use Rattle.plain_types.specs.declared.elem.Elem.{Elem}
use Rattle.cil_sig.specs.declared.sig.SigType.{SigType}
use Rattle.cil_sig.specs.declared.sig.MethodSig.{MethodSig}
use Rattle.cil_sig.specs.declared.elements.TheConstants.{VOID, POINTER, ARRAY, MAX_RANKS, MAX_COUNT, FIELD, LOCALS, STATIC_METHOD, INSTANCE_METHOD}
use Rattle.file_tables.specs.Compressed.{IsCompressed}
use Rattle.cil_sig.specs.Elements.{element_of, names_type}
use Rattle.cil_sig.specs.Reading.{no_value}

-- a coded TypeDef or TypeRef
abbrev pub IsToken : List ℕ → ℕ → Type 0
IsToken bytes token = IsCompressed bytes token × (token % 4 < 2)

abbrev pub IsCount : List ℕ → ℕ → Type 0
IsCount bytes count = IsCompressed bytes count × (count ≤ MAX_COUNT)

-- what follows the code of an element
abbrev pub IsName : Elem → List ℕ → ℕ → Type 0
IsName elem bytes token = MatchBool (names_type elem) (IsToken bytes token) ((bytes ≡ []) × (token ≡ 0))

-- a code, and the token where one follows it
abbrev pub IsElement : List ℕ → Elem → ℕ → Type 0
IsElement [] elem token = ⊥
IsElement (code ∷ name) elem token = (element_of code ≡ Some elem) × IsName elem name token

-- array brackets, and the element
pub record IsType (bytes : List ℕ) (t : SigType) : Type 0 where
  pub element : List ℕ
  pub parts : bytes ≡ replicate t.ranks ARRAY ++ element
  pub is_element : IsElement element t.elem t.token
  pub few : t.ranks ≤ MAX_RANKS
  pub no_pointer : t.pointer ≡ false

-- a pointer's byte and what it points to
pub record IsPointer (bytes : List ℕ) (t : SigType) : Type 0 where
  pub of : List ℕ
  pub parts : bytes ≡ POINTER ∷ of
  pub is_type : IsType of (record t { pointer = false })

abbrev pub IsParameter : List ℕ → SigType → Type 0
IsParameter bytes t = MatchBool t.pointer (IsPointer bytes t) (IsType bytes t)

abbrev pub IsVoid : List ℕ → SigType → Type 0
IsVoid bytes t = (bytes ≡ VOID ∷ []) × (t ≡ no_value)

abbrev pub IsResult : List ℕ → SigType → Type 0
IsResult bytes t = IsVoid bytes t ⊎ IsType bytes t

-- one after the other
abbrev pub AreSpelled : (List ℕ → SigType → Type 0) → List ℕ → List SigType → Type 0
AreSpelled Is bytes [] = bytes ≡ []
AreSpelled Is bytes (t ∷ ts) = (first rest : List ℕ) × (bytes ≡ first ++ rest) × Is first t × AreSpelled Is rest ts

-- II.23.2.4
abbrev pub IsField : List ℕ → SigType → Type 0
IsField blob t = (of : List ℕ) × (blob ≡ FIELD ∷ of) × IsType of t

-- II.23.2.14, of arrays alone
abbrev pub IsSpec : List ℕ → SigType → Type 0
IsSpec blob t = IsType blob t × (0 < t.ranks)

-- II.23.2.6
pub record AreLocals (blob : List ℕ) (locals : List SigType) : Type 0 where
  pub count : List ℕ
  pub types : List ℕ
  pub parts : blob ≡ LOCALS ∷ (count ++ types)
  pub counted : IsCount count (length locals)
  pub spelled : AreSpelled IsType types locals

-- the first byte of a method's signature
abbrev pub method_mark : Bool → ℕ
method_mark true = INSTANCE_METHOD
method_mark false = STATIC_METHOD

-- II.23.2.1
pub record IsMethod (blob : List ℕ) (sig : MethodSig) : Type 0 where
  pub count : List ℕ
  pub returns : List ℕ
  pub params : List ℕ
  pub parts : blob ≡ method_mark sig.this ∷ (count ++ (returns ++ params))
  pub counted : IsCount count (length sig.params)
  pub result : IsResult returns sig.returns
  pub spelled : AreSpelled IsParameter params sig.params
