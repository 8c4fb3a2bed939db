-- What is read is what is spelled, and what is spelled is read again: types.
use Rattle.std.proofs.Common.{◌≡◌, ℕ, zero, suc, ◌+◌, ◌≤◌, Bool, true, false, cond, ltb, eqb, List, [], ◌∷◌, ◌++◌, length, drop, Option, Some, None, Ok, refl, sym, ap, subst, ◌∙◌, append_assoc, arith, inl, inr}
use Rattle.std.specs.Prelude.{replicate, MatchBool, ◌⊎◌}
use Rattle.std.specs.Option.{ok_or}
use Rattle.std.proofs.lemmas.Bool.{ltb-false, le-ltb, eqb-true}
use Rattle.std.proofs.lemmas.List.{drop_at, length-replicate}
use Rattle.plain_types.specs.declared.elem.Elem.{Elem}
use Rattle.cil_sig.specs.declared.sig.SigType.{SigType}
use Rattle.cil_sig.specs.declared.elements.TheConstants.{VOID, POINTER, ARRAY, MAX_RANKS}
use Rattle.cil_sig.specs.Elements.{element_of, names_type}
use Rattle.cil_sig.specs.Reading.{◌>>=◌, Part, no_case, token_at, name_at, element_at, brackets, bracketed, bracketed_at, type_at, pointer_at, parameter_at, no_value, result_at}
use Rattle.cil_sig.specs.Spelling.{IsToken, IsName, IsElement, IsType, IsPointer, IsParameter, IsResult}
use Rattle.cil_sig.proofs.Numbers.{Takes, bind_ok, ok_is, token_takes, token_again}

-- which way a test went
pub chosen : {A : Type 0} (b : Bool) (x y z : A) → cond b x y ≡ z → ((b ≡ true) × (x ≡ z)) ⊎ ((b ≡ false) × (y ≡ z))
chosen true x y z e = inl (refl, e)
chosen false x y z e = inr (refl, e)

-- ---- an element

abbrev Element : List ℕ → Elem × ℕ → Type 0
Element text x = IsElement text x.0 x.1

named_takes : (named : Bool) (bytes : List ℕ) (x : ℕ × List ℕ) → cond named (token_at bytes) (Ok (0, bytes)) ≡ Ok x → Takes (λ text token. MatchBool named (IsToken text token) ((text ≡ []) × (token ≡ 0))) bytes x
named_takes true bytes x e = let t = token_takes bytes x e in record { text = t.text; parts = t.parts; is = t.is }
named_takes false bytes x e =
    subst (Takes (λ text token. (text ≡ []) × (token ≡ 0)) bytes) (ok_is (0, bytes) x e) (record { text = []; parts = refl; is = (refl, refl) })

name_takes : (elem : Elem) (bytes : List ℕ) (x : ℕ × List ℕ) → name_at elem bytes ≡ Ok x → Takes (IsName elem) bytes x
unfolding name_at
name_takes elem bytes x e = named_takes (names_type elem) bytes x e

named_again : (named : Bool) (text rest : List ℕ) (token : ℕ) → MatchBool named (IsToken text token) ((text ≡ []) × (token ≡ 0)) → cond named (token_at (text ++ rest)) (Ok (0, text ++ rest)) ≡ Ok (token, rest)
named_again true text rest token is = token_again text rest token is
named_again false text rest token is = rw (is.0, is.1) refl

name_again : (elem : Elem) (text rest : List ℕ) (token : ℕ) → IsName elem text token → name_at elem (text ++ rest) ≡ Ok (token, rest)
unfolding name_at
name_again elem text rest token is = named_again (names_type elem) text rest token is

some_is : {A : Type 0} (o : Option A) (left : ℕ) (x : A) → Path (Part A) (ok_or o left) (Ok x) → o ≡ Some x
some_is (Some y) left x e = ap (λ z. Some z) (ok_is y x e)
some_is None left x e = absurd cc

element_takes : (bytes : List ℕ) (x : (Elem × ℕ) × List ℕ) → element_at bytes ≡ Ok x → Takes Element bytes x
unfolding element_at
element_takes [] x e = absurd cc
element_takes (code ∷ rest) x e =
    let a = bind_ok (ok_or (element_of code) (length (code ∷ rest))) (λ elem. name_at elem rest >>= λ name. Ok ((elem, name.0), name.1)) x e in
    let b = bind_ok (name_at a.0 rest) (λ name. Ok ((a.0, name.0), name.1)) x a.2 in
    let t = name_takes a.0 rest b.0 b.1 in
    subst (Takes Element (code ∷ rest)) (ok_is ((a.0, b.0.0), b.0.1) x b.2) (record { text = code ∷ t.text; parts = ap (λ (l : List ℕ). code ∷ l) t.parts; is = (some_is _ _ a.0 a.1, t.is) })

element_again : (text rest : List ℕ) (elem : Elem) (token : ℕ) → IsElement text elem token → element_at (text ++ rest) ≡ Ok ((elem, token), rest)
unfolding element_at
element_again [] rest elem token is = absurd is
element_again (code ∷ name) rest elem token is = rw (is.0, name_again elem name rest token is.1) refl

-- an element's code is none of the marks
no_mark : (code mark : ℕ) (elem : Elem) → element_of mark ≡ None → element_of code ≡ Some elem → eqb code mark ≡ false
no_mark code mark elem none some = by (eqb code mark) refl where
  by : (is : Bool) → eqb code mark ≡ is → is ≡ false
  by true e = let same : code ≡ mark = eqb-true _ _ e in absurd (let both : None ≡ Some elem = sym none ∙ ap element_of (sym same) ∙ some in cc)
  by false e = refl

pub array_no_element : element_of ARRAY ≡ None
unfolding element_of
array_no_element = refl

pointer_no_element : element_of POINTER ≡ None
unfolding element_of
pointer_no_element = refl

void_no_element : element_of VOID ≡ None
unfolding element_of
void_no_element = refl

-- ---- array brackets

brackets_if : (is : Bool) (code : ℕ) (rest : List ℕ) → eqb code ARRAY ≡ is → rest ≡ replicate (brackets rest) ARRAY ++ drop (brackets rest) rest
    → code ∷ rest ≡ replicate (cond is (1 + brackets rest) 0) ARRAY ++ drop (cond is (1 + brackets rest) 0) (code ∷ rest)
brackets_if true code rest e others =
    let same : code ≡ ARRAY = eqb-true _ _ e in
    let one : 1 + brackets rest ≡ suc (brackets rest) = omega arith in
    rw (one, same) (ap (λ (l : List ℕ). ARRAY ∷ l) others)
brackets_if false code rest e others = refl

brackets_are : (bytes : List ℕ) → bytes ≡ replicate (brackets bytes) ARRAY ++ drop (brackets bytes) bytes
brackets_are [] = refl
brackets_are (code ∷ rest) = brackets_if (eqb code ARRAY) code rest refl (brackets_are rest)

brackets_again : (n code : ℕ) (rest : List ℕ) → eqb code ARRAY ≡ false → brackets (replicate n ARRAY ++ (code ∷ rest)) ≡ n
brackets_again zero code rest other = rw other refl
brackets_again (suc n) code rest other = rw (brackets_again n code rest other) (omega arith)

bracketed_takes : (ranks : ℕ) (bytes : List ℕ) (x : SigType × List ℕ) → ranks ≡ brackets bytes → ranks ≤ MAX_RANKS → bracketed_at ranks bytes ≡ Ok x → Takes IsType bytes x
unfolding bracketed_at
bracketed_takes ranks bytes x same few e =
    let a = bind_ok (element_at (drop ranks bytes)) (λ element. Ok (bracketed ranks element.0, element.1)) x e in
    let t = element_takes (drop ranks bytes) a.0 a.1 in
    let front : bytes ≡ replicate ranks ARRAY ++ drop ranks bytes = rw same (brackets_are bytes) in
    let whole : bytes ≡ (replicate ranks ARRAY ++ t.text) ++ a.0.1 = front ∙ ap (λ (l : List ℕ). replicate ranks ARRAY ++ l) t.parts ∙ sym (append_assoc (replicate ranks ARRAY) t.text a.0.1) in
    subst (Takes IsType bytes) (ok_is (bracketed ranks a.0.0, a.0.1) x a.2) (record { text = replicate ranks ARRAY ++ t.text; parts = whole; is = record { element = t.text; parts = refl; is_element = t.is; few = few; no_pointer = refl } })

pub type_takes : (bytes : List ℕ) (x : SigType × List ℕ) → type_at bytes ≡ Ok x → Takes IsType bytes x
unfolding type_at
type_takes bytes x e =
    elim (chosen (ltb MAX_RANKS (brackets bytes)) (no_case (drop MAX_RANKS bytes)) (bracketed_at (brackets bytes) bytes) (Ok x) e) [
      | inl many ↦ absurd (let h = many.1 in cc)
      | inr few ↦ bracketed_takes (brackets bytes) bytes x refl (ltb-false _ _ few.0) few.1
    ]

bracketed_again : (ranks : ℕ) (element rest : List ℕ) (elem : Elem) (token : ℕ) → ranks ≤ MAX_RANKS → IsElement element elem token
    → type_at ((replicate ranks ARRAY ++ element) ++ rest) ≡ Ok (record { pointer = false; ranks = ranks; elem = elem; token = token }, rest)
unfolding type_at bracketed_at
bracketed_again ranks [] rest elem token few is = absurd is
bracketed_again ranks (code ∷ name) rest elem token few is =
    let other : eqb code ARRAY ≡ false = no_mark code ARRAY elem array_no_element is.0 in
    let n : brackets (replicate ranks ARRAY ++ (code ∷ (name ++ rest))) ≡ ranks = brackets_again ranks code (name ++ rest) other in
    let fits : ltb MAX_RANKS ranks ≡ false = le-ltb _ _ few in
    let regrouped = append_assoc (replicate ranks ARRAY) (code ∷ name) rest in
    let behind : drop ranks (replicate ranks ARRAY ++ (code ∷ (name ++ rest))) ≡ code ∷ (name ++ rest) = drop_at (replicate ranks ARRAY) (code ∷ (name ++ rest)) ranks (length-replicate ranks ARRAY) in
    let read : element_at (code ∷ (name ++ rest)) ≡ Ok ((elem, token), rest) = element_again (code ∷ name) rest elem token is in
    rw (regrouped, n, fits, behind, read) refl

pub type_again : (text rest : List ℕ) (t : SigType) → IsType text t → type_at (text ++ rest) ≡ Ok (t, rest)
type_again text rest t is =
    let plain : record t { pointer = false } ≡ t = ap (λ (p : Bool). record t { pointer = p }) (sym is.no_pointer) in
    rw is.parts (bracketed_again t.ranks is.element rest t.elem t.token is.few is.is_element ∙ ap (λ (u : SigType). Ok (u, rest)) plain)

-- a type begins with a bracket or an element's code
type_begins : (mark : ℕ) (text : List ℕ) (t : SigType) → element_of mark ≡ None → eqb ARRAY mark ≡ false → IsType text t → (code : ℕ) × (more : List ℕ) × (text ≡ code ∷ more) × (eqb code mark ≡ false)
type_begins mark text t none other is = by t.ranks is.element is.parts is.is_element where
  by : (ranks : ℕ) (element : List ℕ) → text ≡ replicate ranks ARRAY ++ element → IsElement element t.elem t.token → (code : ℕ) × (more : List ℕ) × (text ≡ code ∷ more) × (eqb code mark ≡ false)
  by zero [] parts spelled = absurd spelled
  by zero (code ∷ name) parts spelled = (code, name, parts, no_mark code mark t.elem none spelled.0)
  by (suc n) element parts spelled = (ARRAY, replicate n ARRAY ++ element, parts, other)

-- ---- a parameter

pointer_takes : (bytes : List ℕ) (x : SigType × List ℕ) → pointer_at bytes ≡ Ok x → Takes IsParameter (POINTER ∷ bytes) x
unfolding pointer_at
pointer_takes bytes x e =
    let a = bind_ok (type_at bytes) (λ to. Ok (record to.0 { pointer = true }, to.1)) x e in
    let t = type_takes bytes a.0 a.1 in
    let plain : a.0.0 ≡ record a.0.0 { pointer = false } = ap (λ (p : Bool). record a.0.0 { pointer = p }) t.is.no_pointer in
    let to : IsType t.text (record a.0.0 { pointer = false }) = subst (IsType t.text) plain t.is in
    subst (Takes IsParameter (POINTER ∷ bytes)) (ok_is (record a.0.0 { pointer = true }, a.0.1) x a.2) (record { text = POINTER ∷ t.text; parts = ap (λ (l : List ℕ). POINTER ∷ l) t.parts; is = record { of = t.text; parts = refl; is_type = to } })

-- a type is a parameter too
type_passes : (text : List ℕ) (t : SigType) → IsType text t → IsParameter text t
type_passes text t is = subst (λ (p : Bool). MatchBool p (IsPointer text t) (IsType text t)) (sym is.no_pointer) is

plain_takes : (bytes : List ℕ) (x : SigType × List ℕ) → type_at bytes ≡ Ok x → Takes IsParameter bytes x
plain_takes bytes x e = let t = type_takes bytes x e in record { text = t.text; parts = t.parts; is = type_passes t.text x.0 t.is }

pub parameter_takes : (bytes : List ℕ) (x : SigType × List ℕ) → parameter_at bytes ≡ Ok x → Takes IsParameter bytes x
unfolding parameter_at
parameter_takes [] x e = plain_takes [] x e
parameter_takes (code ∷ rest) x e =
    elim (chosen (eqb code POINTER) (pointer_at rest) (type_at (code ∷ rest)) (Ok x) e) [
      | inl pointer ↦ (let same : POINTER ≡ code = sym (eqb-true _ _ pointer.0) in subst (λ (b : ℕ). Takes IsParameter (b ∷ rest) x) same (pointer_takes rest x pointer.1))
      | inr plain ↦ plain_takes (code ∷ rest) x plain.1
    ]

pointer_again : (text rest : List ℕ) (t : SigType) → t.pointer ≡ true → IsPointer text t → parameter_at (text ++ rest) ≡ Ok (t, rest)
unfolding parameter_at pointer_at
pointer_again text rest t pointer is =
    let to = type_again is.of rest (record t { pointer = false }) is.is_type in
    let whole : record t { pointer = true } ≡ t = ap (λ (p : Bool). record t { pointer = p }) (sym pointer) in
    rw (is.parts, to) (ap (λ (u : SigType). Ok (u, rest)) whole)

plain_again : (text rest : List ℕ) (t : SigType) → IsType text t → parameter_at (text ++ rest) ≡ Ok (t, rest)
unfolding parameter_at
plain_again text rest t is =
    let begins = type_begins POINTER text t pointer_no_element refl is in
    let other = begins.3 in
    let again = type_again text rest t is in
    subst (λ (l : List ℕ). type_at (l ++ rest) ≡ Ok (t, rest) → parameter_at (l ++ rest) ≡ Ok (t, rest)) (sym begins.2) (λ read. rw other read) again

pub parameter_again : (text rest : List ℕ) (t : SigType) → IsParameter text t → parameter_at (text ++ rest) ≡ Ok (t, rest)
parameter_again text rest t is = by t.pointer refl is where
  by : (pointer : Bool) → t.pointer ≡ pointer → MatchBool pointer (IsPointer text t) (IsType text t) → parameter_at (text ++ rest) ≡ Ok (t, rest)
  by true e is = pointer_again text rest t e is
  by false e is = plain_again text rest t is

-- ---- a result

returned_takes : (bytes : List ℕ) (x : SigType × List ℕ) → type_at bytes ≡ Ok x → Takes IsResult bytes x
returned_takes bytes x e = let t = type_takes bytes x e in record { text = t.text; parts = t.parts; is = inr t.is }

pub result_takes : (bytes : List ℕ) (x : SigType × List ℕ) → result_at bytes ≡ Ok x → Takes IsResult bytes x
unfolding result_at
result_takes [] x e = returned_takes [] x e
result_takes (code ∷ rest) x e =
    elim (chosen (eqb code VOID) (Ok (no_value, rest)) (type_at (code ∷ rest)) (Ok x) e) [
      | inl void ↦
          let same : code ≡ VOID = eqb-true _ _ void.0 in
          subst (Takes IsResult (code ∷ rest)) (ok_is (no_value, rest) x void.1) (record { text = VOID ∷ []; parts = ap (λ (b : ℕ). b ∷ rest) same; is = inl (refl, refl) })
      | inr plain ↦ returned_takes (code ∷ rest) x plain.1
    ]

pub result_again : (text rest : List ℕ) (t : SigType) → IsResult text t → result_at (text ++ rest) ≡ Ok (t, rest)
unfolding result_at
result_again text rest t (inl void) = rw (void.0, void.1) refl
result_again text rest t (inr is) =
    let begins = type_begins VOID text t void_no_element refl is in
    let other = begins.3 in
    let again = type_again text rest t is in
    subst (λ (l : List ℕ). type_at (l ++ rest) ≡ Ok (t, rest) → result_at (l ++ rest) ≡ Ok (t, rest)) (sym begins.2) (λ read. rw other read) again
