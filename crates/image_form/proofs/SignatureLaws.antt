-- Signatures that are spelt are read.
use Rattle.std.proofs.Common.{◌≡◌, ℕ, zero, suc, ◌+◌, ◌-◌, ◌≤◌, Bool, true, false, List, [], ◌∷◌, length, Option, Some, None, refl, ap, ◌∙◌, arith}
use Rattle.std.specs.Prelude.{if◌then◌else◌, nat_eq, nat_lt}
use Rattle.std.proofs.lemmas.Bool.{lt-ltb, le-ltb, ltb-false}
use Rattle.plain_types.specs.declared.elem.Elem.{Elem}
use Rattle.plain_types.specs.declared.elem.Elem.TheVariants as elem
use Rattle.machine.specs.Throw.{on_some}
use Rattle.image_bytes.specs.Layout.{all_onto, word_onto, Reader, read_word, many}
use Rattle.image_bytes.proofs.Laws.{Reads, word_law}
use Rattle.assemblies.specs.Rows.{TypeToken, TypeDef, TypeRef, TypeSpec, MemberToken, Own, Reference, RawType, RawSpelt, RawClass, RawValue, RawArray, RawPlace, RawDirect, RawByRef, RawSignature}
use Rattle.image_form.specs.Signatures.{type_word, type_token, member_word, member_token, elem_byte, elem_at, raw_onto, place_onto, result_onto, signature_onto, locals_onto, read_named, read_leaf, read_raw, read_type, read_place, read_result, with_returns, with_count, read_signature, read_locals, is_end, whole, depth, IsNamed, HasSpelling, PlaceHas, ResultHas, SignatureHas}
use Rattle.image_form.specs.Limits.{TypeIsSmall, MemberIsSmall}
use Rattle.assemblies.specs.Closed.{Each}

-- ---- tokens

if_true : {A : Type 0} (b : Bool) (x y : A) → b ≡ true → (if b then x else y) ≡ x
if_true true x y e = refl
if_true false x y e = absurd (cc e)

if_false : {A : Type 0} (b : Bool) (x y : A) → b ≡ false → (if b then x else y) ≡ y
if_false true x y e = absurd (cc e)
if_false false x y e = refl

pub type_back : (t : TypeToken) → TypeIsSmall t → type_token (type_word t) ≡ t
type_back (TypeDef n) h = if_true (nat_lt n 16384) (TypeDef n) _ (lt-ltb n 16384 h)
type_back (TypeRef n) h =
    let off : 16384 + n - 16384 ≡ n = omega arith in
    if_false (nat_lt (16384 + n) 16384) _ _ (le-ltb (16384 + n) 16384 (omega arith))
    ∙ if_true (nat_lt (16384 + n) 32768) (TypeRef (16384 + n - 16384)) _ (lt-ltb (16384 + n) 32768 (omega (arith, h)))
    ∙ ap TypeRef off
type_back (TypeSpec n) h =
    let off : 32768 + n - 32768 ≡ n = omega arith in
    if_false (nat_lt (32768 + n) 16384) _ _ (le-ltb (32768 + n) 16384 (omega arith))
    ∙ if_false (nat_lt (32768 + n) 32768) _ (TypeSpec (32768 + n - 32768)) (le-ltb (32768 + n) 32768 (omega arith))
    ∙ ap TypeSpec off

pub member_back : (t : MemberToken) → MemberIsSmall t → member_token (member_word t) ≡ t
member_back (Own n) h = if_true (nat_lt n 16384) (Own n) _ (lt-ltb n 16384 h)
member_back (Reference n) h =
    let off : 16384 + n - 16384 ≡ n = omega arith in
    if_false (nat_lt (16384 + n) 16384) _ (Reference (16384 + n - 16384)) (le-ltb (16384 + n) 16384 (omega arith)) ∙ ap Reference off

-- ---- types

module _ (name : ℕ → Option TypeToken) where
  -- one more step of reading, where what is read is then wrapped
  wrapped : {A B : Type 0} (read : Reader A) (spell : A → List ℕ → List ℕ) (x : A) (make : A → B) (rest : List ℕ) → Reads read spell x → on_some {B = B × List ℕ} (read (spell x rest)) (λ y. Some (make y.0, y.1)) ≡ Some (make x, rest)
  wrapped read spell x make rest h = ap (λ o. on_some o (λ y. Some (make y.0, y.1))) (h rest)

  named_law : (make : TypeToken → RawType) (t : TypeToken) (rest : List ℕ) → name (type_word t) ≡ Some t → read_named name make (word_onto (type_word t) rest) ≡ Some (make t, rest)
  named_law make t rest h =
      ap (λ o. on_some o (λ w. on_some (name w.0) (λ t. Some (make t, w.1)))) (word_law (type_word t) rest)
      ∙ ap (λ o. on_some o (λ t. Some (make t, rest))) h

  leaf_law : (e : Elem) (rest : List ℕ) → elem_at (elem_byte e) ≡ Some e → read_leaf name (elem_byte e) rest ≡ Some (RawSpelt e, rest)
  leaf_law elem.Void rest h = absurd (cc h)
  leaf_law elem.Bool rest h = refl
  leaf_law elem.Char rest h = refl
  leaf_law elem.I1 rest h = refl
  leaf_law elem.U1 rest h = refl
  leaf_law elem.I2 rest h = refl
  leaf_law elem.U2 rest h = refl
  leaf_law elem.I4 rest h = refl
  leaf_law elem.U4 rest h = refl
  leaf_law elem.I8 rest h = refl
  leaf_law elem.U8 rest h = refl
  leaf_law elem.String rest h = refl
  leaf_law elem.Class rest h = absurd (cc h)
  leaf_law elem.Value rest h = absurd (cc h)
  leaf_law elem.Object rest h = refl

  -- no element that stands alone has the byte of an array, a pointer or void
  other_byte : (e : Elem) → elem_at (elem_byte e) ≡ Some e → (nat_eq (elem_byte e) 29 ≡ false) × (nat_eq (elem_byte e) 16 ≡ false) × (nat_eq (elem_byte e) 1 ≡ false)
  other_byte elem.Void h = absurd (cc h)
  other_byte elem.Bool h = (refl, refl, refl)
  other_byte elem.Char h = (refl, refl, refl)
  other_byte elem.I1 h = (refl, refl, refl)
  other_byte elem.U1 h = (refl, refl, refl)
  other_byte elem.I2 h = (refl, refl, refl)
  other_byte elem.U2 h = (refl, refl, refl)
  other_byte elem.I4 h = (refl, refl, refl)
  other_byte elem.U4 h = (refl, refl, refl)
  other_byte elem.I8 h = (refl, refl, refl)
  other_byte elem.U8 h = (refl, refl, refl)
  other_byte elem.String h = (refl, refl, refl)
  other_byte elem.Class h = absurd (cc h)
  other_byte elem.Value h = absurd (cc h)
  other_byte elem.Object h = (refl, refl, refl)

  raw_law : (n : ℕ) (t : RawType) → depth t ≤ n → IsNamed name t → Reads (read_raw name n) raw_onto t
  raw_law zero (RawSpelt e) d h rest = leaf_law e rest h
  raw_law zero (RawClass t) d h rest = named_law RawClass t rest h
  raw_law zero (RawValue t) d h rest = named_law RawValue t rest h
  raw_law zero (RawArray s) d h rest = absurd (omega (arith, d))
  raw_law (suc n) (RawSpelt e) d h rest =
      if_false (nat_eq (elem_byte e) 29) _ (read_leaf name (elem_byte e) rest) ((other_byte e h).0) ∙ leaf_law e rest h
  raw_law (suc n) (RawClass t) d h rest = named_law RawClass t rest h
  raw_law (suc n) (RawValue t) d h rest = named_law RawValue t rest h
  raw_law (suc n) (RawArray s) d h rest = wrapped (read_raw name n) raw_onto s RawArray rest (raw_law n s (omega (arith, d)) h)

  pub type_law : (t : RawType) → HasSpelling name t → Reads (read_type name) raw_onto t
  type_law t h = raw_law 255 t (ltb-false 255 (depth t) h.shallow) h.named

  -- the first byte of a type is none of those that a parameter or a result may begin with
  direct_law : (t : RawType) (rest : List ℕ) → HasSpelling name t → read_place name (raw_onto t rest) ≡ on_some (read_type name (raw_onto t rest)) (λ x. Some (RawDirect x.0, x.1))
  direct_law (RawSpelt e) rest h = if_false (nat_eq (elem_byte e) 16) _ (on_some (read_type name (elem_byte e ∷ rest)) (λ x. Some (RawDirect x.0, x.1))) ((other_byte e h.named).1)
  direct_law (RawClass t) rest h = refl
  direct_law (RawValue t) rest h = refl
  direct_law (RawArray s) rest h = refl

  pub place_law : (p : RawPlace) → PlaceHas name p → Reads (read_place name) place_onto p
  place_law (RawDirect t) h rest = direct_law t rest h ∙ wrapped (read_type name) raw_onto t RawDirect rest (type_law t h)
  place_law (RawByRef t) h rest = wrapped (read_type name) raw_onto t RawByRef rest (type_law t h)

  returned_law : (t : RawType) (rest : List ℕ) → HasSpelling name t → read_result name (raw_onto t rest) ≡ on_some (read_type name (raw_onto t rest)) (λ x. Some (Some x.0, x.1))
  returned_law (RawSpelt e) rest h = if_false (nat_eq (elem_byte e) 1) _ (on_some (read_type name (elem_byte e ∷ rest)) (λ x. Some (Some x.0, x.1))) ((other_byte e h.named).2)
  returned_law (RawClass t) rest h = refl
  returned_law (RawValue t) rest h = refl
  returned_law (RawArray s) rest h = refl

  pub result_law : (r : Option RawType) → ResultHas name r → Reads (read_result name) result_onto r
  result_law None h rest = refl
  result_law (Some t) h rest = returned_law t rest h ∙ wrapped (read_type name) raw_onto t Some rest (type_law t h)

-- each of several
pub each_law : {A : Type 0} (read : Reader A) (spell : A → List ℕ → List ℕ) (P : A → Type 0) → ((x : A) → P x → Reads read spell x) → (xs : List A) → Each P xs → Reads (many read (length xs)) (all_onto spell) xs
each_law read spell P h [] p rest = refl
each_law read spell P h (x ∷ xs) p rest =
    ap (λ o. on_some o (λ y. on_some (many read (length xs) y.1) (λ ys. Some (y.0 ∷ ys.0, ys.1)))) (h x p.0 (all_onto spell xs rest))
    ∙ ap (λ o. on_some o (λ ys. Some (x ∷ ys.0, ys.1))) (each_law read spell P h xs p.1 rest)

module _ (name : ℕ → Option TypeToken) where
  parts_law : (this : Bool) (r : Option RawType) (ps : List RawPlace) (rest : List ℕ) → ResultHas name r → Each (PlaceHas name) ps → on_some (read_word (word_onto (length ps) (result_onto r (all_onto place_onto ps rest)))) (with_count name this) ≡ Some (record { has_this = this; returns = r; parameters = ps }, rest)
  parts_law this r ps rest h hs =
      ap (λ o. on_some o (with_count name this)) (word_law (length ps) (result_onto r (all_onto place_onto ps rest)))
      ∙ ap (λ o. on_some o (with_returns name this (length ps))) (result_law name r h (all_onto place_onto ps rest))
      ∙ ap (λ o. on_some o (λ ps. Some (record { has_this = this; returns = r; parameters = ps.0 }, ps.1))) (each_law (read_place name) place_onto (PlaceHas name) (place_law name) ps hs rest)

  pub signature_law : (s : RawSignature) → SignatureHas name s → Reads (read_signature name) signature_onto s
  signature_law s h rest = go s.has_this refl
    where
      go : (this : Bool) → s.has_this ≡ this → read_signature name ((if this then 32 else 0) ∷ word_onto (length s.parameters) (result_onto s.returns (all_onto place_onto s.parameters rest))) ≡ Some (record { has_this = this; returns = s.returns; parameters = s.parameters }, rest)
      go true e = parts_law true s.returns s.parameters rest h.returns h.parameters
      go false e = parts_law false s.returns s.parameters rest h.returns h.parameters

  pub locals_law : (ts : List RawType) → Each (HasSpelling name) ts → Reads (read_locals name) locals_onto ts
  locals_law ts h rest =
      ap (λ o. on_some o (λ n. many (read_type name) n.0 n.1)) (word_law (length ts) (all_onto raw_onto ts rest))
      ∙ each_law (read_type name) raw_onto (HasSpelling name) (type_law name) ts h rest

-- and nothing follows
pub whole_law : {A : Type 0} (read : Reader A) (spell : A → List ℕ → List ℕ) (x : A) → Reads read spell x → whole read (spell x []) ≡ Some x
whole_law read spell x h = ap (λ o. on_some o (λ y. if is_end y.1 then Some y.0 else None)) (h [])
