-- Methods of one name and signature: searches for them find the same, and a class has each once.
use Rattle.std.proofs.Common.{◌≡◌, ℕ, zero, suc, Bool, true, false, ◌&&◌, ◌||◌, not, List, [], ◌∷◌, Option, Some, None, refl, sym, ap, ◌∙◌, subst, cond}
use Rattle.std.specs.Prelude.{nat_eq, slice_get}
use Rattle.std.specs.List.{find, filter, list_any}
use Rattle.std.proofs.lemmas.Bool.{and_parts, eqb-true, eq-eqb}
use Rattle.machine.specs.Data.{Id, id_eq, elem_number}
use Rattle.machine.specs.Texts.{same_text}
use Rattle.classes.specs.Classes.{SigType, Spelt, ClassToken, ValueToken, ArraySig, SigPlace, Direct, ByRef, Signature, OwnMethod, Classes}
use Rattle.classes.specs.Queries.{sig_type_eq, sig_place_eq, sig_places_eq, result_eq, flag_eq, signature_eq, method_signature_eq, is_named, is_virtual_named, methods_of, own_virtual, first_some, or_else}
use Rattle.class_rules.specs.Rules.{methods_apart}
use Rattle.class_rules.proofs.Signatures.{method_signature_same}

text_same : (a b : List ℕ) → same_text a b ≡ true → a ≡ b
text_same [] [] h = refl
text_same [] (y ∷ ys) h = absurd (cc h)
text_same (x ∷ xs) [] h = absurd (cc h)
text_same (x ∷ xs) (y ∷ ys) h =
    let w = and_parts (nat_eq x y) (same_text xs ys) h in
    ap (λ z. z ∷ xs) (eqb-true x y w.0) ∙ ap (λ z. y ∷ z) (text_same xs ys w.1)

both_true : (a b : Bool) → a ≡ true → b ≡ true → (a && b) ≡ true
both_true true b p q = q
both_true false b p q = absurd (cc p)

text_self : (a : List ℕ) → same_text a a ≡ true
text_self [] = refl
text_self (x ∷ xs) = both_true (nat_eq x x) (same_text xs xs) (eq-eqb x x refl) (text_self xs)

id_self : (c : Id) → id_eq c c ≡ true
id_self c = both_true (nat_eq c.file c.file) (nat_eq c.row c.row) (eq-eqb c.file c.file refl) (eq-eqb c.row c.row refl)

sig_self : (s : SigType) → sig_type_eq s s ≡ true
sig_self (Spelt e) = eq-eqb (elem_number e) (elem_number e) refl
sig_self (ClassToken c) = id_self c
sig_self (ValueToken c) = id_self c
sig_self (ArraySig s) = sig_self s

place_self : (s : SigPlace) → sig_place_eq s s ≡ true
place_self (Direct s) = sig_self s
place_self (ByRef s) = sig_self s

places_self : (ss : List SigPlace) → sig_places_eq ss ss ≡ true
places_self [] = refl
places_self (s ∷ ss) = both_true (sig_place_eq s s) (sig_places_eq ss ss) (place_self s) (places_self ss)

result_self : (s : Option SigType) → result_eq s s ≡ true
result_self None = refl
result_self (Some s) = sig_self s

flag_self : (b : Bool) → flag_eq b b ≡ true
flag_self true = refl
flag_self false = refl

signature_self : (s : Signature) → signature_eq s s ≡ true
signature_self s =
    both_true (flag_eq s.has_this s.has_this) (result_eq s.returns s.returns && sig_places_eq s.parameters s.parameters) (flag_self s.has_this)
    (both_true (result_eq s.returns s.returns) (sig_places_eq s.parameters s.parameters) (result_self s.returns) (places_self s.parameters))

-- ---- one name and signature

pub record SameNamed (m x : OwnMethod) : Type 0 where
  pub name : x.name ≡ m.name
  pub signature : x.signature ≡ m.signature

pub named_same : (m x : OwnMethod) → is_named m.name m.signature x ≡ true → SameNamed m x
named_same m x h =
    let w = and_parts (same_text x.name m.name) (method_signature_eq x.signature m.signature) h in
    let s = method_signature_same x.signature m.signature w.1 in
    record { name = text_same x.name m.name w.0; signature = s.1 ∙ sym s.2 }

pub virtual_same : (m x : OwnMethod) → is_virtual_named m x ≡ true → (x.is_virtual ≡ true) × SameNamed m x
virtual_same m x h = let w = and_parts x.is_virtual (is_named m.name m.signature x) h in (w.0, named_same m x w.1)

test_same : (m x z : OwnMethod) → SameNamed m x → is_virtual_named x z ≡ is_virtual_named m z
test_same m x z e = ap (λ n. z.is_virtual && is_named n x.signature z) e.name ∙ ap (λ s. z.is_virtual && is_named m.name s z) e.signature

name_test_same : (m x z : OwnMethod) → SameNamed m x → is_named x.name x.signature z ≡ is_named m.name m.signature z
name_test_same m x z e = ap (λ n. is_named n x.signature z) e.name ∙ ap (λ s. is_named m.name s z) e.signature

pub search_same : (cs : Classes) (m x : OwnMethod) (up : List Id) → SameNamed m x → first_some (own_virtual cs x) up ≡ first_some (own_virtual cs m) up
search_same cs m x up e =
    ap (λ n. first_some (λ c. find (λ (z : OwnMethod). z.is_virtual && is_named n x.signature z) (methods_of cs c)) up) e.name
    ∙ ap (λ s. first_some (λ c. find (λ (z : OwnMethod). z.is_virtual && is_named m.name s z) (methods_of cs c)) up) e.signature

-- ---- what is found stands in the list

pub find_index : {A : Type 0} (test : A → Bool) (xs : List A) (y : A) → find test xs ≡ Some y → (i : ℕ) × ((slice_get xs i ≡ Some y) × (test y ≡ true))
find_index test [] y e = absurd (cc e)
find_index test (x ∷ xs) y e = go (test x) refl e (find_index test xs y)
  where
    go : (b : Bool) → test x ≡ b → cond b (Some x) (find test xs) ≡ Some y → (find test xs ≡ Some y → (i : ℕ) × ((slice_get xs i ≡ Some y) × (test y ≡ true))) → (i : ℕ) × ((slice_get (x ∷ xs) i ≡ Some y) × (test y ≡ true))
    go true t e h = let same : x ≡ y = cc e in (0, (e, ap test (sym same) ∙ t))
    go false t e h = let w = h e in (suc w.0, w.1)

pub first_index : {A B : Type 0} (look : A → Option B) (xs : List A) (y : B) → first_some look xs ≡ Some y → (i : ℕ) × ((x : A) × (slice_get xs i ≡ Some x) × (look x ≡ Some y))
first_index look [] y e = absurd (cc e)
first_index {A} {B} look (x ∷ xs) y e = go (look x) refl e (first_index look xs y)
  where
    go : (o : Option B) → look x ≡ o → or_else o (first_some look xs) ≡ Some y → (first_some look xs ≡ Some y → (i : ℕ) × ((z : A) × (slice_get xs i ≡ Some z) × (look z ≡ Some y))) → (i : ℕ) × ((z : A) × (slice_get (x ∷ xs) i ≡ Some z) × (look z ≡ Some y))
    go None p e h = let w = h e in (suc w.0, w.1)
    go (Some z) p e h = (0, (x, refl, p ∙ e))

any_at : {A : Type 0} (test : A → Bool) (xs : List A) (i : ℕ) (x : A) → slice_get xs i ≡ Some x → test x ≡ true → list_any test xs ≡ true
any_at test [] i x e t = absurd (cc e)
any_at test (y ∷ ys) zero x e t = let same : y ≡ x = cc e in ap (λ b. b || list_any test ys) (ap test same ∙ t)
any_at test (y ∷ ys) (suc i) x e t = ap (λ b. test y || b) (any_at test ys i x e t) ∙ right (test y)
  where
    right : (b : Bool) → (b || true) ≡ true
    right true = refl
    right false = refl

not_true : (b : Bool) → not b ≡ true → b ≡ false
not_true true h = absurd (cc h)
not_true false h = refl

-- ---- a class has each once

is_first : (x : OwnMethod) (s : Signature) → x.signature ≡ Some s → is_named x.name x.signature x ≡ true
is_first x s e = both_true (same_text x.name x.name) (method_signature_eq x.signature x.signature) (text_self x.name) (subst (λ o. method_signature_eq o o ≡ true) (sym e) (signature_self s))

pub first_of_name : (xs : List OwnMethod) (i : ℕ) (x : OwnMethod) (s : Signature) → methods_apart xs ≡ true → slice_get xs i ≡ Some x → x.is_virtual ≡ true → x.signature ≡ Some s → find (is_virtual_named x) xs ≡ Some x
first_of_name [] i x s a e v t = absurd (cc e)
first_of_name (y ∷ ys) zero x s a e v t =
    let same : y ≡ x = cc e in
    ap (λ b. cond b (Some y) (find (is_virtual_named x) ys)) (ap (is_virtual_named x) same ∙ both_true x.is_virtual (is_named x.name x.signature x) v (is_first x s t)) ∙ e
first_of_name (y ∷ ys) (suc i) x s a e v t =
    let w = and_parts (not (list_any (is_named y.name y.signature) ys)) (methods_apart ys) a in
    go (is_virtual_named x y) refl (not_true (list_any (is_named y.name y.signature) ys) w.0) (first_of_name ys i x s w.1 e v t)
  where
    go : (b : Bool) → is_virtual_named x y ≡ b → list_any (is_named y.name y.signature) ys ≡ false → find (is_virtual_named x) ys ≡ Some x → cond b (Some y) (find (is_virtual_named x) ys) ≡ Some x
    go true p none h = absurd (cc (sym none ∙ any_at (is_named y.name y.signature) ys i x e (name_test_same x y x (virtual_same x y p).1 ∙ is_first x s t)))
    go false p none h = h

-- where the one of a name isn't kept, no kept one has it
none_kept : (kept : OwnMethod → Bool) (m y : OwnMethod) (xs : List OwnMethod) → SameNamed m y → list_any (is_named y.name y.signature) xs ≡ false → find (is_virtual_named m) (filter kept xs) ≡ None
none_kept kept m y [] e h = refl
none_kept kept m y (x ∷ xs) e h = go (kept x) (is_named y.name y.signature x) refl h (none_kept kept m y xs e)
  where
    missed : (v : Bool) → (v && false) ≡ false
    missed true = refl
    missed false = refl

    go : (k b : Bool) → is_named y.name y.signature x ≡ b → (b || list_any (is_named y.name y.signature) xs) ≡ false → (list_any (is_named y.name y.signature) xs ≡ false → find (is_virtual_named m) (filter kept xs) ≡ None) → find (is_virtual_named m) (cond k (x ∷ filter kept xs) (filter kept xs)) ≡ None
    go k true p h ih = absurd (cc h)
    go false false p h ih = ih h
    go true false p h ih =
        ap (λ b. cond b (Some x) (find (is_virtual_named m) (filter kept xs))) (ap (λ b. x.is_virtual && b) (sym (name_test_same m y x e) ∙ p) ∙ missed x.is_virtual) ∙ ih h

pub alone_of_name : (kept : OwnMethod → Bool) (m y : OwnMethod) (xs : List OwnMethod) → methods_apart xs ≡ true → find (is_virtual_named m) xs ≡ Some y → kept y ≡ false → find (is_virtual_named m) (filter kept xs) ≡ None
alone_of_name kept m y [] a e k = refl
alone_of_name kept m y (x ∷ xs) a e k =
    let w = and_parts (not (list_any (is_named x.name x.signature) xs)) (methods_apart xs) a in
    go (is_virtual_named m x) (kept x) refl refl e (not_true (list_any (is_named x.name x.signature) xs) w.0) (λ f. alone_of_name kept m y xs w.1 f k)
  where
    go : (b c : Bool) → is_virtual_named m x ≡ b → kept x ≡ c → cond b (Some x) (find (is_virtual_named m) xs) ≡ Some y → list_any (is_named x.name x.signature) xs ≡ false → (find (is_virtual_named m) xs ≡ Some y → find (is_virtual_named m) (filter kept xs) ≡ None) → find (is_virtual_named m) (cond c (x ∷ filter kept xs) (filter kept xs)) ≡ None
    go true true p q e none h = let same : x ≡ y = cc e in absurd (cc (sym q ∙ ap kept same ∙ k))
    go true false p q e none h = none_kept kept m x xs (virtual_same m x p).1 none
    go false true p q e none h = ap (λ b. cond b (Some x) (find (is_virtual_named m) (filter kept xs))) p ∙ h e
    go false false p q e none h = h e
