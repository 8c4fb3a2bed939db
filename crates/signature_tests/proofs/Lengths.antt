-- What spells a signature is short.
use Rattle.std.proofs.Common.{◌≡◌, ℕ, ◌*◌, ◌^◌, ◌<◌, ◌≤◌, Bool, true, false, List, [], ◌∷◌, ◌++◌, length, replicate, ap, arith, length-append}
use Rattle.std.specs.Prelude.{MatchBool}
use Rattle.std.proofs.Common.{inl, inr}
use Rattle.std.proofs.lemmas.List.{length-replicate}
use Rattle.plain_types.specs.declared.elem.Elem.{Elem}
use Rattle.file_tables.specs.Compressed.{IsCompressed}
use Rattle.cil_sig.specs.declared.sig.SigType.{SigType}
use Rattle.cil_sig.specs.declared.sig.MethodSig.{MethodSig}
use Rattle.cil_sig.specs.declared.elements.TheConstants.{ARRAY, VOID}
use Rattle.cil_sig.specs.Elements.{names_type}
use Rattle.cil_sig.specs.Spelling.{IsToken, IsName, IsElement, IsType, IsPointer, IsParameter, IsResult, AreSpelled, AreLocals, IsMethod}

number_short : (bytes : List ℕ) (n : ℕ) → IsCompressed bytes n → length bytes ≤ 4
number_short [] n is = absurd is
number_short (a ∷ []) n is = omega arith
number_short (a ∷ b ∷ []) n is = omega arith
number_short (a ∷ b ∷ c ∷ []) n is = absurd is
number_short (a ∷ b ∷ c ∷ d ∷ []) n is = omega arith
number_short (a ∷ b ∷ c ∷ d ∷ e ∷ rest) n is = absurd is

name_short : (elem : Elem) (bytes : List ℕ) (token : ℕ) → IsName elem bytes token → length bytes ≤ 4
name_short elem bytes token is = by (names_type elem) is
  where
    by : (b : Bool) → MatchBool b (IsToken bytes token) ((bytes ≡ []) × (token ≡ 0)) → length bytes ≤ 4
    by true is = number_short bytes token is.0
    by false is = let none : length bytes ≡ 0 = ap length is.0 in omega arith

element_short : (bytes : List ℕ) (elem : Elem) (token : ℕ) → IsElement bytes elem token → length bytes ≤ 5
element_short [] elem token is = absurd is
element_short (code ∷ name) elem token is = let short : length name ≤ 4 = name_short elem name token is.1 in omega arith

type_short : (bytes : List ℕ) (t : SigType) → IsType bytes t → length bytes ≤ 260
type_short bytes t is =
    let short : length is.element ≤ 5 = element_short is.element t.elem t.token is.is_element in
    let few : t.ranks ≤ 255 = is.few in
    let whole : length bytes ≡ length (replicate t.ranks ARRAY ++ is.element) = ap length is.parts in
    omega (arith, whole, length-append (replicate t.ranks ARRAY) is.element, length-replicate t.ranks ARRAY)

one_short : (bytes : List ℕ) (t : SigType) → IsType bytes t → length bytes ≤ 261
one_short bytes t is = let short : length bytes ≤ 260 = type_short bytes t is in omega arith

parameter_short : (bytes : List ℕ) (t : SigType) → IsParameter bytes t → length bytes ≤ 261
parameter_short bytes t is = by t.pointer is
  where
    by : (b : Bool) → MatchBool b (IsPointer bytes t) (IsType bytes t) → length bytes ≤ 261
    by true is =
        let short : length is.of ≤ 260 = type_short is.of (record t { pointer = false }) is.is_type in
        let whole : length bytes ≡ length (16 ∷ is.of) = ap length is.parts in
        omega arith
    by false is = one_short bytes t is

result_short : (bytes : List ℕ) (t : SigType) → IsResult bytes t → length bytes ≤ 260
result_short bytes t (inl is) = let whole : length bytes ≡ length (VOID ∷ []) = ap length is.0 in omega arith
result_short bytes t (inr is) = type_short bytes t is

spelled_short : (Is : List ℕ → SigType → Type 0) → ((bytes : List ℕ) (t : SigType) → Is bytes t → length bytes ≤ 261) → (bytes : List ℕ) (ts : List SigType) → AreSpelled Is bytes ts → length bytes ≤ 261 * length ts
spelled_short Is each bytes [] is = let none : length bytes ≡ 0 = ap length is in omega arith
spelled_short Is each bytes (t ∷ ts) (first, rest, parts, one, others) =
    let short : length first ≤ 261 = each first t one in
    let more : length rest ≤ 261 * length ts = spelled_short Is each rest ts others in
    let whole : length bytes ≡ length (first ++ rest) = ap length parts in
    omega (arith, whole, length-append first rest)

pub locals_short : (blob : List ℕ) (ts : List SigType) → AreLocals blob ts → length blob < 2 ^ 32
locals_short blob ts is =
    let few : length ts ≤ 65535 = is.counted.1 in
    let count : length is.count ≤ 4 = number_short is.count (length ts) is.counted.0 in
    let types : length is.types ≤ 261 * length ts = spelled_short IsType one_short is.types ts is.spelled in
    let whole : length blob ≡ length (7 ∷ (is.count ++ is.types)) = ap length is.parts in
    omega (arith, whole, length-append is.count is.types)

pub method_short : (blob : List ℕ) (s : MethodSig) → IsMethod blob s → length blob < 2 ^ 32
method_short blob s is =
    let few : length s.params ≤ 65535 = is.counted.1 in
    let count : length is.count ≤ 4 = number_short is.count (length s.params) is.counted.0 in
    let returns : length is.returns ≤ 260 = result_short is.returns s.returns is.result in
    let types : length is.params ≤ 261 * length s.params = spelled_short IsParameter parameter_short is.params s.params is.spelled in
    let whole : length blob ≡ length (0 ∷ (is.count ++ (is.returns ++ is.params))) = ap length is.parts in
    omega (arith, whole, length-append is.count (is.returns ++ is.params), length-append is.returns is.params)
