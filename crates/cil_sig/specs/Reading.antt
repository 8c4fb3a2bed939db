-- Signatures, read from left to right (ECMA-335 II.23.2).
use Rattle.std.specs.Prelude.{◌≡◌, ℕ, zero, suc, ◌-◌, ◌%◌, Bool, true, false, ◌==◌, nat_lt, if◌then◌else◌, List, [], ◌∷◌, length, drop, Result, Ok, Err}
use Rattle.std.specs.List.{prefix_len}
use Rattle.std.specs.Option.{ok_or}
use Rattle.plain_types.specs.declared.elem.Elem.{Elem}
use Rattle.plain_types.specs.declared.elem.Elem.TheVariants.{Void}
use Rattle.cil_sig.specs.declared.sig.SigType.{SigType}
use Rattle.cil_sig.specs.declared.sig.MethodSig.{MethodSig}
use Rattle.cil_sig.specs.declared.sig.SigFault.{SigFault}
use Rattle.cil_sig.specs.declared.sig.SigFault.TheVariants.{Bad, NoMemory}
use Rattle.cil_sig.specs.declared.reading.Slot.{Slot}
use Rattle.cil_sig.specs.declared.reading.Slot.TheVariants.{Parameter, Local}
use Rattle.cil_sig.specs.declared.elements.TheConstants.{VOID, POINTER, ARRAY, MAX_RANKS, MAX_COUNT, FIELD, LOCALS, STATIC_METHOD, INSTANCE_METHOD}
use Rattle.file_tables.specs.Compressed.{compressed_at}
use Rattle.cil_sig.specs.Elements.{element_of, names_type}

-- A part of a signature: its value, or how many bytes are left where the grammar has no case.
abbrev pub Part : Type 0 → Type 0
Part X = Result X ℕ

infixl 10 ◌>>=◌
abbrev pub ◌>>=◌ : {A B : Type 0} → Part A → (A → Part B) → Part B
(Ok x) >>= f = f x
(Err left) >>= f = Err left

-- the grammar has no case where these bytes are left
abbrev pub no_case : {X : Type 0} → List ℕ → Part X
no_case bytes = Err (length bytes)

-- Each of the readers below gives its value and the bytes behind it.

unfoldable pub number_at : List ℕ → Part (ℕ × List ℕ)
number_at bytes = ok_or (compressed_at bytes) (length bytes)

-- a count of parameters or locals
unfoldable pub count_at : List ℕ → Part (ℕ × List ℕ)
count_at bytes = do
  count ← number_at bytes
  if nat_lt MAX_COUNT count.0 then no_case bytes else Ok count

-- a coded TypeDef or TypeRef, tags 0 and 1 (II.23.2.8)
unfoldable pub token_at : List ℕ → Part (ℕ × List ℕ)
token_at bytes = do
  token ← number_at bytes
  if nat_lt (token.0 % 4) 2 then Ok token else no_case bytes

-- the token behind the code of an element, which is 0 where none follows
unfoldable pub name_at : Elem → List ℕ → Part (ℕ × List ℕ)
name_at elem bytes = if names_type elem then token_at bytes else Ok (0, bytes)

-- an element and its token
unfoldable pub element_at : List ℕ → Part ((Elem × ℕ) × List ℕ)
element_at [] = no_case []
element_at (code ∷ rest) = do
  elem ← ok_or (element_of code) (length (code ∷ rest))
  name ← name_at elem rest
  Ok ((elem, name.0), name.1)

-- how many array brackets stand at the front
abbrev pub brackets : List ℕ → ℕ
brackets bytes = prefix_len (λ code. code == ARRAY) bytes

-- an element in array brackets
abbrev pub bracketed : ℕ → Elem × ℕ → SigType
bracketed ranks element = record { pointer = false; ranks = ranks; elem = element.0; token = element.1 }

-- the type of an element behind this many brackets
unfoldable pub bracketed_at : ℕ → List ℕ → Part (SigType × List ℕ)
bracketed_at ranks bytes = do
  element ← element_at (drop ranks bytes)
  Ok (bracketed ranks element.0, element.1)

-- an element behind array brackets (II.23.2.12)
unfoldable pub type_at : List ℕ → Part (SigType × List ℕ)
type_at bytes =
    if nat_lt MAX_RANKS (brackets bytes) then no_case (drop MAX_RANKS bytes) else bracketed_at (brackets bytes) bytes

-- what a managed pointer points to
unfoldable pub pointer_at : List ℕ → Part (SigType × List ℕ)
pointer_at bytes = do
  to ← type_at bytes
  Ok (record to.0 { pointer = true }, to.1)

-- a type, or a managed pointer to one (II.23.2.10)
unfoldable pub parameter_at : List ℕ → Part (SigType × List ℕ)
parameter_at [] = type_at []
parameter_at (code ∷ rest) = if code == POINTER then pointer_at rest else type_at (code ∷ rest)

-- what a result of no value has as its type
abbrev pub no_value : SigType
no_value = record { pointer = false; ranks = 0; elem = Void; token = 0 }

-- a type, or void (II.23.2.11)
unfoldable pub result_at : List ℕ → Part (SigType × List ℕ)
result_at [] = type_at []
result_at (code ∷ rest) = if code == VOID then Ok (no_value, rest) else type_at (code ∷ rest)

abbrev pub slot_at : Slot → List ℕ → Part (SigType × List ℕ)
slot_at Parameter bytes = parameter_at bytes
slot_at Local bytes = type_at bytes

-- as many as counted
unfoldable pub slots_at : Slot → ℕ → List ℕ → Part (List SigType × List ℕ)
slots_at slot zero bytes = Ok ([], bytes)
slots_at slot (suc n) bytes = do
  first ← slot_at slot bytes
  others ← slots_at slot n first.1
  Ok (first.0 ∷ others.0, others.1)

-- the bytes behind a first byte that has to be this one
abbrev pub behind : ℕ → List ℕ → Part (List ℕ)
behind mark [] = no_case []
behind mark (b ∷ rest) = if b == mark then Ok rest else no_case (b ∷ rest)

-- whether the method takes `this`
abbrev pub this_at : List ℕ → Part (Bool × List ℕ)
this_at [] = no_case []
this_at (b ∷ rest) =
    if b == INSTANCE_METHOD then Ok (true, rest)
    else if b == STATIC_METHOD then Ok (false, rest)
    else no_case (b ∷ rest)

-- a value behind which nothing may follow
abbrev pub alone : {X : Type 0} → X → List ℕ → Part X
alone x [] = Ok x
alone x (b ∷ rest) = no_case (b ∷ rest)

-- Whole signatures.

unfoldable pub whole_type : List ℕ → Part SigType
whole_type bytes = do
  of ← type_at bytes
  alone of.0 of.1

unfoldable pub whole_field : List ℕ → Part SigType
whole_field blob = do
  rest ← behind FIELD blob
  whole_type rest

-- the TypeSpec of an array
unfoldable pub whole_spec : List ℕ → Part SigType
whole_spec blob = do
  rest ← behind ARRAY blob
  whole_type blob

unfoldable pub whole_locals : List ℕ → Part (List SigType)
whole_locals blob = do
  rest ← behind LOCALS blob
  count ← count_at rest
  locals ← slots_at Local count.0 count.1
  alone locals.0 locals.1

unfoldable pub whole_method : List ℕ → Part MethodSig
whole_method blob = do
  this ← this_at blob
  count ← count_at this.1
  returns ← result_at count.1
  params ← slots_at Parameter count.0 returns.1
  alone (record { this = this.0; returns = returns.0; params = params.0 }) params.1

-- The answer of a call on a blob: the value, or the offset at which the grammar has no case.
abbrev pub answer : {X : Type 0} → List ℕ → Part X → Result X SigFault
answer blob (Ok x) = Ok x
answer blob (Err left) = Err (Bad (length blob - left))

-- The answer, unless memory ran out.
abbrev pub Answers : {X : Type 0} → Result X SigFault → Result X SigFault → Type 0
Answers (Err NoMemory) wanted = Unit {0}
Answers result wanted = result ≡ wanted
