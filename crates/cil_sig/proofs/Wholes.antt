-- What is read is what is spelled, and what is spelled is read again: whole signatures.
use Rattle.std.proofs.Common.{◌≡◌, ℕ, zero, suc, ◌<◌, Bool, true, false, cond, eqb, List, [], ◌∷◌, ◌++◌, length, Ok, refl, sym, ap, subst, ◌∙◌, append_assoc, arith, inl, inr}
use Rattle.std.specs.Prelude.{replicate, Option, Some, None}
use Rattle.plain_types.specs.declared.elem.Elem.{Elem}
use Rattle.cil_sig.specs.Elements.{element_of}
use Rattle.std.proofs.lemmas.Bool.{eqb-true}
use Rattle.std.proofs.lemmas.List.{append-nil}
use Rattle.cil_sig.specs.declared.sig.SigType.{SigType}
use Rattle.cil_sig.specs.declared.sig.MethodSig.{MethodSig}
use Rattle.cil_sig.specs.declared.reading.Slot.{Slot}
use Rattle.cil_sig.specs.declared.reading.Slot.TheVariants.{Parameter, Local}
use Rattle.cil_sig.specs.declared.elements.TheConstants.{ARRAY, FIELD, LOCALS, STATIC_METHOD, INSTANCE_METHOD}
use Rattle.cil_sig.specs.Reading.{◌>>=◌, no_case, count_at, type_at, result_at, slot_at, slots_at, behind, this_at, alone, whole_type, whole_field, whole_spec, whole_locals, whole_method}
use Rattle.cil_sig.specs.Spelling.{IsElement, IsType, IsParameter, AreSpelled, IsField, IsSpec, AreLocals, method_mark, IsMethod}
use Rattle.cil_sig.proofs.Numbers.{Takes, bind_ok, ok_is, count_takes, count_again}
use Rattle.cil_sig.proofs.Types.{chosen, array_no_element, type_takes, type_again, parameter_takes, parameter_again, result_takes, result_again}

-- ---- types behind a count

abbrev IsSlot : Slot → List ℕ → SigType → Type 0
IsSlot Parameter text t = IsParameter text t
IsSlot Local text t = IsType text t

slot_takes : (slot : Slot) (bytes : List ℕ) (x : SigType × List ℕ) → slot_at slot bytes ≡ Ok x → Takes (IsSlot slot) bytes x
slot_takes Parameter bytes x e = let t = parameter_takes bytes x e in record { text = t.text; parts = t.parts; is = t.is }
slot_takes Local bytes x e = let t = type_takes bytes x e in record { text = t.text; parts = t.parts; is = t.is }

slot_again : (slot : Slot) (text rest : List ℕ) (t : SigType) → IsSlot slot text t → slot_at slot (text ++ rest) ≡ Ok (t, rest)
slot_again Parameter text rest t is = parameter_again text rest t is
slot_again Local text rest t is = type_again text rest t is

record AreTaken (slot : Slot) (count : ℕ) (bytes : List ℕ) (x : List SigType × List ℕ) : Type 0 where
  pub take : Takes (AreSpelled (IsSlot slot)) bytes x
  pub number : length x.0 ≡ count

slots_take : (slot : Slot) (n : ℕ) (bytes : List ℕ) (x : List SigType × List ℕ) → slots_at slot n bytes ≡ Ok x → AreTaken slot n bytes x
unfolding slots_at
slots_take slot zero bytes x e = subst (AreTaken slot 0 bytes) (ok_is ([], bytes) x e) (record { take = record { text = []; parts = refl; is = refl }; number = refl })
slots_take slot (suc n) bytes x e =
    let a = bind_ok (slot_at slot bytes) (λ first. slots_at slot n first.1 >>= λ others. Ok (first.0 ∷ others.0, others.1)) x e in
    let b = bind_ok (slots_at slot n a.0.1) (λ others. Ok (a.0.0 ∷ others.0, others.1)) x a.2 in
    let first = slot_takes slot bytes a.0 a.1 in
    let others = slots_take slot n a.0.1 b.0 b.1 in
    let whole : bytes ≡ (first.text ++ others.take.text) ++ b.0.1 = first.parts ∙ ap (λ (l : List ℕ). first.text ++ l) others.take.parts ∙ sym (append_assoc first.text others.take.text b.0.1) in
    subst (AreTaken slot (suc n) bytes) (ok_is (a.0.0 ∷ b.0.0, b.0.1) x b.2) (record { take = record { text = first.text ++ others.take.text; parts = whole; is = (first.text, others.take.text, refl, first.is, others.take.is) }; number = ap suc others.number })

slots_again : (slot : Slot) (ts : List SigType) (text rest : List ℕ) → AreSpelled (IsSlot slot) text ts → slots_at slot (length ts) (text ++ rest) ≡ Ok (ts, rest)
unfolding slots_at
slots_again slot [] text rest are = rw are refl
slots_again slot (t ∷ ts) text rest are =
    let regrouped : text ++ rest ≡ are.0 ++ (are.1 ++ rest) = ap (λ (l : List ℕ). l ++ rest) are.2 ∙ append_assoc are.0 are.1 rest in
    ap (slots_at slot (suc (length ts))) regrouped ∙ rw (slot_again slot are.0 (are.1 ++ rest) t are.3, slots_again slot ts are.1 rest are.4) refl

-- ---- what may not follow, and first bytes

alone_is : {X : Type 0} (x y : X) (rest : List ℕ) → alone x rest ≡ Ok y → (rest ≡ []) × (x ≡ y)
alone_is x y [] e = (refl, ok_is x y e)
alone_is x y (b ∷ rest) e = absurd cc

behind_is : (mark : ℕ) (bytes rest : List ℕ) → behind mark bytes ≡ Ok rest → bytes ≡ mark ∷ rest
behind_is mark [] rest e = absurd cc
behind_is mark (b ∷ more) rest e = by (eqb b mark) refl e where
  by : (is : Bool) → eqb b mark ≡ is → cond is (Ok more) (no_case (b ∷ more)) ≡ Ok rest → b ∷ more ≡ mark ∷ rest
  by true same e = let b-is : b ≡ mark = eqb-true _ _ same in let more-is : more ≡ rest = ok_is more rest e in cc
  by false same e = absurd cc

this_is : (bytes : List ℕ) (x : Bool × List ℕ) → this_at bytes ≡ Ok x → bytes ≡ method_mark x.0 ∷ x.1
this_is [] x e = absurd cc
this_is (b ∷ rest) x e =
    elim (chosen (eqb b INSTANCE_METHOD) (Ok (true, rest)) (cond (eqb b STATIC_METHOD) (Ok (false, rest)) (no_case (b ∷ rest))) (Ok x) e) [
      | inl instance ↦ (let same : b ≡ INSTANCE_METHOD = eqb-true _ _ instance.0 in subst (λ (y : Bool × List ℕ). b ∷ rest ≡ method_mark y.0 ∷ y.1) (ok_is (true, rest) x instance.1) (ap (λ (c : ℕ). c ∷ rest) same))
      | inr other ↦
          elim (chosen (eqb b STATIC_METHOD) (Ok (false, rest)) (no_case (b ∷ rest)) (Ok x) other.1) [
            | inl static ↦ (let same : b ≡ STATIC_METHOD = eqb-true _ _ static.0 in subst (λ (y : Bool × List ℕ). b ∷ rest ≡ method_mark y.0 ∷ y.1) (ok_is (false, rest) x static.1) (ap (λ (c : ℕ). c ∷ rest) same))
            | inr none ↦ absurd (let h = none.1 in cc)
          ]
    ]

this_again : (this : Bool) (rest : List ℕ) → this_at (method_mark this ∷ rest) ≡ Ok (this, rest)
this_again true rest = refl
this_again false rest = refl

-- a text behind which nothing stands
ended : {X : Type 0} (Is : List ℕ → X → Type 0) (bytes : List ℕ) (x : X × List ℕ) → Takes Is bytes x → x.1 ≡ [] → Is bytes x.0
ended Is bytes x t none = subst (λ (l : List ℕ). Is l x.0) (sym (t.parts ∙ ap (λ (r : List ℕ). t.text ++ r) none ∙ append-nil t.text)) t.is

-- ---- fields and array types

whole_takes : (bytes : List ℕ) (t : SigType) → whole_type bytes ≡ Ok t → IsType bytes t
unfolding whole_type
whole_takes bytes t e =
    let a = bind_ok (type_at bytes) (λ of. alone of.0 of.1) t e in
    let end = alone_is a.0.0 t a.0.1 a.2 in
    subst (IsType bytes) end.1 (ended IsType bytes a.0 (type_takes bytes a.0 a.1) end.0)

whole_again : (bytes : List ℕ) (t : SigType) → IsType bytes t → whole_type bytes ≡ Ok t
unfolding whole_type
whole_again bytes t is =
    let read : type_at bytes ≡ Ok (t, []) = ap type_at (sym (append-nil bytes)) ∙ type_again bytes [] t is in
    rw read refl

pub field_takes : (blob : List ℕ) (t : SigType) → whole_field blob ≡ Ok t → IsField blob t
unfolding whole_field
field_takes blob t e =
    let a = bind_ok (behind FIELD blob) (λ rest. whole_type rest) t e in
    (a.0, behind_is FIELD blob a.0 a.1, whole_takes a.0 t a.2)

pub field_again : (blob : List ℕ) (t : SigType) → IsField blob t → whole_field blob ≡ Ok t
unfolding whole_field
field_again blob t is = rw is.1 (whole_again is.0 t is.2)

-- a type whose first byte is a bracket stands in brackets
in_brackets : (blob rest : List ℕ) (t : SigType) → IsType blob t → blob ≡ ARRAY ∷ rest → 0 < t.ranks
in_brackets blob rest t is front = by t.ranks is.element is.parts is.is_element where
  by : (ranks : ℕ) (element : List ℕ) → blob ≡ replicate ranks ARRAY ++ element → IsElement element t.elem t.token → 0 < ranks
  by zero [] parts spelled = absurd spelled
  by zero (code ∷ name) parts spelled =
      let same : code ≡ ARRAY = cc (front, parts) in
      let none : Path (Option Elem) None (Some t.elem) = sym array_no_element ∙ ap element_of (sym same) ∙ spelled.0 in
      absurd cc
  by (suc n) element parts spelled = omega arith

pub spec_takes : (blob : List ℕ) (t : SigType) → whole_spec blob ≡ Ok t → IsSpec blob t
unfolding whole_spec
spec_takes blob t e =
    let a = bind_ok (behind ARRAY blob) (λ rest. whole_type blob) t e in
    let is = whole_takes blob t a.2 in
    (is, in_brackets blob a.0 t is (behind_is ARRAY blob a.0 a.1))

pub spec_again : (blob : List ℕ) (t : SigType) → IsSpec blob t → whole_spec blob ≡ Ok t
unfolding whole_spec
spec_again blob t is = by t.ranks is.0.parts is.1 where
  by : (ranks : ℕ) → blob ≡ replicate ranks ARRAY ++ is.0.element → 0 < ranks → whole_spec blob ≡ Ok t
  by zero parts some = absurd (omega arith)
  by (suc n) parts some = rw (whole_again blob t is.0, parts) refl

-- ---- locals and methods

pub locals_take : (blob : List ℕ) (ts : List SigType) → whole_locals blob ≡ Ok ts → AreLocals blob ts
unfolding whole_locals
locals_take blob ts e =
    let a = bind_ok (behind LOCALS blob) (λ rest. count_at rest >>= λ count. slots_at Local count.0 count.1 >>= λ locals. alone locals.0 locals.1) ts e in
    let b = bind_ok (count_at a.0) (λ count. slots_at Local count.0 count.1 >>= λ locals. alone locals.0 locals.1) ts a.2 in
    let c = bind_ok (slots_at Local b.0.0 b.0.1) (λ locals. alone locals.0 locals.1) ts b.2 in
    let end = alone_is c.0.0 ts c.0.1 c.2 in
    let mark = behind_is LOCALS blob a.0 a.1 in
    let count = count_takes a.0 b.0 b.1 in
    let types = slots_take Local b.0.0 b.0.1 c.0 c.1 in
    let spelled = ended (AreSpelled (IsSlot Local)) b.0.1 c.0 types.take end.0 in
    subst (AreLocals blob) end.1 (record {
      count = count.text;
      types = b.0.1;
      parts = mark ∙ ap (λ (l : List ℕ). LOCALS ∷ l) count.parts;
      counted = rw types.number count.is;
      spelled = spelled;
    })

pub locals_again : (blob : List ℕ) (ts : List SigType) → AreLocals blob ts → whole_locals blob ≡ Ok ts
unfolding whole_locals
locals_again blob ts are =
    let count : count_at (are.count ++ are.types) ≡ Ok (length ts, are.types) = count_again are.count are.types (length ts) are.counted in
    let types : slots_at Local (length ts) are.types ≡ Ok (ts, []) = ap (slots_at Local (length ts)) (sym (append-nil are.types)) ∙ slots_again Local ts are.types [] are.spelled in
    rw (are.parts, count, types) refl

pub method_takes : (blob : List ℕ) (sig : MethodSig) → whole_method blob ≡ Ok sig → IsMethod blob sig
unfolding whole_method
method_takes blob sig e =
    let a = bind_ok (this_at blob) (λ this. count_at this.1 >>= λ count. result_at count.1 >>= λ returns. slots_at Parameter count.0 returns.1 >>= λ params. alone (record { this = this.0; returns = returns.0; params = params.0 }) params.1) sig e in
    let b = bind_ok (count_at a.0.1) (λ count. result_at count.1 >>= λ returns. slots_at Parameter count.0 returns.1 >>= λ params. alone (record { this = a.0.0; returns = returns.0; params = params.0 }) params.1) sig a.2 in
    let c = bind_ok (result_at b.0.1) (λ returns. slots_at Parameter b.0.0 returns.1 >>= λ params. alone (record { this = a.0.0; returns = returns.0; params = params.0 }) params.1) sig b.2 in
    let d = bind_ok (slots_at Parameter b.0.0 c.0.1) (λ params. alone (record { this = a.0.0; returns = c.0.0; params = params.0 }) params.1) sig c.2 in
    let made : MethodSig = record { this = a.0.0; returns = c.0.0; params = d.0.0 } in
    let end = alone_is made sig d.0.1 d.2 in
    let mark = this_is blob a.0 a.1 in
    let count = count_takes a.0.1 b.0 b.1 in
    let returns = result_takes b.0.1 c.0 c.1 in
    let params = slots_take Parameter b.0.0 c.0.1 d.0 d.1 in
    let spelled = ended (AreSpelled (IsSlot Parameter)) c.0.1 d.0 params.take end.0 in
    subst (IsMethod blob) end.1 (record {
      count = count.text;
      returns = returns.text;
      params = c.0.1;
      parts = mark ∙ ap (λ (l : List ℕ). method_mark a.0.0 ∷ l) (count.parts ∙ ap (λ (l : List ℕ). count.text ++ l) returns.parts);
      counted = rw params.number count.is;
      result = returns.is;
      spelled = spelled;
    })

pub method_again : (blob : List ℕ) (sig : MethodSig) → IsMethod blob sig → whole_method blob ≡ Ok sig
unfolding whole_method
method_again blob sig is =
    let behind = is.count ++ (is.returns ++ is.params) in
    let this : this_at (method_mark sig.this ∷ behind) ≡ Ok (sig.this, behind) = this_again sig.this behind in
    let count : count_at behind ≡ Ok (length sig.params, is.returns ++ is.params) = count_again is.count (is.returns ++ is.params) (length sig.params) is.counted in
    let returns : result_at (is.returns ++ is.params) ≡ Ok (sig.returns, is.params) = result_again is.returns is.params sig.returns is.result in
    let params : slots_at Parameter (length sig.params) is.params ≡ Ok (sig.params, []) = ap (slots_at Parameter (length sig.params)) (sym (append-nil is.params)) ∙ slots_again Parameter sig.params is.params [] is.spelled in
    rw (is.parts, this, count, returns, params) refl
