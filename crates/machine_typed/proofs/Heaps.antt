-- Lists, and objects by their numbers.
use Rattle.std.proofs.Common.{◌≡◌, ◌⊎◌, inl, inr, ⊎_elim, ℕ, zero, suc, ◌+◌, ◌-◌, ◌*◌, ◌/◌, ◌<◌, ◌≤◌, Bool, true, false, ◌==◌, ◌&&◌, List, [], ◌∷◌, ◌++◌, map, length, replicate, Option, Some, None, refl, sym, ap, ◌∙◌, subst, arith}
use Rattle.std.specs.Prelude.{if◌then◌else◌, nat_lt, slice_get, slice_set}
use Rattle.std.proofs.lemmas.Bool.{eqb-true, ne_eqb, le-ltb, ltb-false}
use Rattle.machine.specs.Data.{Id, CliType, Value, Thing, Instance, Text, Elements, Boxed, StaticCell, thing_size, thing_at, put_thing, end_of, element_bytes, cell_of}
use Rattle.machine.specs.Throw.{on_some}
use Rattle.machine_typed.specs.Typing.{when}

-- combinators that have an answer
pub some_inv : {A B : Type 0} (o : Option A) (k : A → Option B) (b : B) → on_some o k ≡ Some b → (x : A) × (o ≡ Some x) × (k x ≡ Some b)
some_inv None k b e = absurd (cc e)
some_inv (Some x) k b e = (x, refl, e)

pub when_inv : {A : Type 0} (t : Bool) (o : Option A) (b : A) → when t o ≡ Some b → (t ≡ true) × (o ≡ Some b)
when_inv true o b e = (refl, e)
when_inv false o b e = absurd (cc e)

pub and_left : (a b : Bool) → a && b ≡ true → a ≡ true
and_left true b e = refl
and_left false b e = absurd (cc e)

pub and_right : (a b : Bool) → a && b ≡ true → b ≡ true
and_right true b e = e
and_right false b e = absurd (cc e)

pub some_same : {A : Type 0} (x y : A) → Some x ≡ Some y → x ≡ y
some_same x y e = cc e

pub get_map : {A B : Type 0} (g : A → B) (xs : List A) (n : ℕ) (x : A) → slice_get xs n ≡ Some x → slice_get (map g xs) n ≡ Some (g x)
get_map g [] n x e = absurd (cc e)
get_map g (y ∷ ys) zero x e = ap (λ z. Some (g z)) (some_same y x e)
get_map g (y ∷ ys) (suc n) x e = get_map g ys n x e

pub get_set_same : {A : Type 0} (xs : List A) (n : ℕ) (v : A) → n < length xs → slice_get (slice_set xs n v) n ≡ Some v
get_set_same [] n v h = absurd (omega arith)
get_set_same (x ∷ xs) zero v h = refl
get_set_same (x ∷ xs) (suc n) v h = get_set_same xs n v (omega arith)

pub get_set_other : {A : Type 0} (xs : List A) (n k : ℕ) (v : A) → (k ≡ n → ⊥) → slice_get (slice_set xs n v) k ≡ slice_get xs k
get_set_other [] n k v h = refl
get_set_other (x ∷ xs) zero zero v h = absurd (h refl)
get_set_other (x ∷ xs) zero (suc k) v h = refl
get_set_other (x ∷ xs) (suc n) zero v h = refl
get_set_other (x ∷ xs) (suc n) (suc k) v h = get_set_other xs n k v (λ e. h (ap suc e))

-- objects by their numbers
if_true_some : {A : Type 0} (b : Bool) (x y : Option A) → b ≡ true → (if b then x else y) ≡ x
if_true_some true x y e = refl
if_true_some false x y e = absurd (cc e)

if_false_some : {A : Type 0} (b : Bool) (x y : Option A) → b ≡ false → (if b then x else y) ≡ y
if_false_some true x y e = absurd (cc e)
if_false_some false x y e = refl

size_positive : (x : Thing) → 0 < thing_size x
size_positive (Instance c vs) = omega arith
size_positive (Text units) = omega arith
size_positive (Elements element values) = omega arith
size_positive (Boxed type value) = omega arith
size_positive (StaticCell type value) = omega arith

-- an object's number, or one behind it
at_here : (x : Thing) (xs : List Thing) → thing_at (x ∷ xs) 0 ≡ Some x
at_here x xs = refl

at_behind : (x : Thing) (xs : List Thing) (n : ℕ) → thing_size x ≤ n → thing_at (x ∷ xs) n ≡ thing_at xs (n - thing_size x)
at_behind x xs n h =
    if_false_some (n == 0) (Some x) (if nat_lt n (thing_size x) then None else thing_at xs (n - thing_size x)) (ne_eqb n 0 (λ e. omega (arith, size_positive x)))
    ∙ if_false_some (nat_lt n (thing_size x)) None (thing_at xs (n - thing_size x)) (le-ltb n (thing_size x) h)

pub get_seam : (xs : List Thing) (y : Thing) → thing_at (xs ++ y ∷ []) (end_of xs) ≡ Some y
get_seam [] y = refl
get_seam (x ∷ xs) y =
    let back : thing_size x + end_of xs - thing_size x ≡ end_of xs = omega arith in
    at_behind x (xs ++ y ∷ []) (thing_size x + end_of xs) (omega arith) ∙ ap (thing_at (xs ++ y ∷ [])) back ∙ get_seam xs y

module _ {C : Type 0} where
  -- by the two tests of a number at a list that begins with x
  by_tests : (x : Thing) (n : ℕ) → ((n == 0) ≡ true → C) → ((n == 0) ≡ false → nat_lt n (thing_size x) ≡ true → C) → ((n == 0) ≡ false → nat_lt n (thing_size x) ≡ false → C) → C
  by_tests x n f g h = at (n == 0) refl (nat_lt n (thing_size x)) refl
    where
      at : (b : Bool) → (n == 0) ≡ b → (c : Bool) → nat_lt n (thing_size x) ≡ c → C
      at true e c k = f e
      at false e true k = g e k
      at false e false k = h e k

-- the three values of thing_at
at_first : (x : Thing) (xs : List Thing) (n : ℕ) → (n == 0) ≡ true → thing_at (x ∷ xs) n ≡ Some x
at_first x xs n e = if_true_some (n == 0) (Some x) (if nat_lt n (thing_size x) then None else thing_at xs (n - thing_size x)) e

at_inside : (x : Thing) (xs : List Thing) (n : ℕ) → (n == 0) ≡ false → nat_lt n (thing_size x) ≡ true → thing_at (x ∷ xs) n ≡ None
at_inside x xs n e k =
    if_false_some (n == 0) (Some x) (if nat_lt n (thing_size x) then None else thing_at xs (n - thing_size x)) e
    ∙ if_true_some (nat_lt n (thing_size x)) None (thing_at xs (n - thing_size x)) k

at_later : (x : Thing) (xs : List Thing) (n : ℕ) → (n == 0) ≡ false → nat_lt n (thing_size x) ≡ false → thing_at (x ∷ xs) n ≡ thing_at xs (n - thing_size x)
at_later x xs n e k =
    if_false_some (n == 0) (Some x) (if nat_lt n (thing_size x) then None else thing_at xs (n - thing_size x)) e
    ∙ if_false_some (nat_lt n (thing_size x)) None (thing_at xs (n - thing_size x)) k

pub get_append : (xs ys : List Thing) (n : ℕ) (y : Thing) → thing_at xs n ≡ Some y → thing_at (xs ++ ys) n ≡ Some y
get_append [] ys n y e = absurd (cc e)
get_append (x ∷ xs) ys n y e =
    by_tests x n
    (λ z. at_first x (xs ++ ys) n z ∙ sym (at_first x xs n z) ∙ e)
    (λ z k. absurd (let w = sym (at_inside x xs n z k) ∙ e in cc w))
    (λ z k. at_later x (xs ++ ys) n z k ∙ get_append xs ys (n - thing_size x) y (sym (at_later x xs n z k) ∙ e))

pub get_either : (xs : List Thing) (y : Thing) (n : ℕ) (x : Thing) → thing_at (xs ++ y ∷ []) n ≡ Some x → (thing_at xs n ≡ Some x) ⊎ (x ≡ y)
get_either [] y n x e =
    by_tests y n
    (λ z. inr (some_same x y (sym e ∙ at_first y [] n z)))
    (λ z k. absurd (let w = sym (at_inside y [] n z k) ∙ e in cc w))
    (λ z k. absurd (let w = sym (at_later y [] n z k) ∙ e in cc w))
get_either (w ∷ xs) y n x e =
    by_tests w n
    (λ z. inl (at_first w xs n z ∙ sym (at_first w (xs ++ y ∷ []) n z) ∙ e))
    (λ z k. absurd (let v = sym (at_inside w (xs ++ y ∷ []) n z k) ∙ e in cc v))
    (λ z k. ⊎_elim (λ h. inl (at_later w xs n z k ∙ h)) (λ h. inr h) (get_either xs y (n - thing_size w) x (sym (at_later w (xs ++ y ∷ []) n z k) ∙ e)))

put_first : (x : Thing) (xs : List Thing) (n : ℕ) (y : Thing) → (n == 0) ≡ true → put_thing (x ∷ xs) n y ≡ y ∷ xs
put_first x xs n y e = ap (λ (b : Bool). if b then y ∷ xs else (if nat_lt n (thing_size x) then x ∷ xs else x ∷ put_thing xs (n - thing_size x) y)) e

put_later : (x : Thing) (xs : List Thing) (n : ℕ) (y : Thing) → (n == 0) ≡ false → nat_lt n (thing_size x) ≡ false → put_thing (x ∷ xs) n y ≡ x ∷ put_thing xs (n - thing_size x) y
put_later x xs n y e k =
    ap (λ (b : Bool). if b then y ∷ xs else (if nat_lt n (thing_size x) then x ∷ xs else x ∷ put_thing xs (n - thing_size x) y)) e
    ∙ ap (λ (b : Bool). if b then x ∷ xs else x ∷ put_thing xs (n - thing_size x) y) k

pub put_same : (xs : List Thing) (n : ℕ) (x y : Thing) → thing_at xs n ≡ Some x → thing_at (put_thing xs n y) n ≡ Some y
put_same [] n x y e = absurd (cc e)
put_same (w ∷ xs) n x y e =
    by_tests w n
    (λ z. ap (λ l. thing_at l n) (put_first w xs n y z) ∙ at_first y xs n z)
    (λ z k. absurd (let v = sym (at_inside w xs n z k) ∙ e in cc v))
    (λ z k. ap (λ l. thing_at l n) (put_later w xs n y z k) ∙ at_later w (put_thing xs (n - thing_size w) y) n z k ∙ put_same xs (n - thing_size w) x y (sym (at_later w xs n z k) ∙ e))

pub put_other : (xs : List Thing) (n i : ℕ) (x y : Thing) → thing_at xs n ≡ Some x → thing_size y ≡ thing_size x → (i ≡ n → ⊥) → thing_at (put_thing xs n y) i ≡ thing_at xs i
put_other [] n i x y e size ne = absurd (cc e)
put_other (w ∷ xs) n i x y e size ne =
    by_tests w n
    (λ z.
    let zero_n : n ≡ 0 = eqb-true n 0 z in
    let is : w ≡ x = some_same w x (sym (at_first w xs n z) ∙ e) in
    let same : thing_size y ≡ thing_size w = size ∙ ap thing_size (sym is) in
    let no : (i == 0) ≡ false = ne_eqb i 0 (λ h. ne (h ∙ sym zero_n)) in
    ap (λ l. thing_at l i) (put_first w xs n y z)
    ∙ by_tests w i
    (λ q. absurd (let v = sym q ∙ no in cc v))
    (λ q k. at_inside y xs i q (ap (nat_lt i) same ∙ k) ∙ sym (at_inside w xs i q k))
    (λ q k. at_later y xs i q (ap (nat_lt i) same ∙ k) ∙ ap (λ m. thing_at xs (i - m)) same ∙ sym (at_later w xs i q k)))
    (λ z k. absurd (let v = sym (at_inside w xs n z k) ∙ e in cc v))
    (λ z k.
    ap (λ l. thing_at l i) (put_later w xs n y z k)
    ∙ by_tests w i
    (λ q. at_first w (put_thing xs (n - thing_size w) y) i q ∙ sym (at_first w xs i q))
    (λ q j. at_inside w (put_thing xs (n - thing_size w) y) i q j ∙ sym (at_inside w xs i q j))
    (λ q j.
    let ln : thing_size w ≤ n = ltb-false n (thing_size w) k in
    let li : thing_size w ≤ i = ltb-false i (thing_size w) j in
    at_later w (put_thing xs (n - thing_size w) y) i q j
    ∙ put_other xs (n - thing_size w) (i - thing_size w) x y (sym (at_later w xs n z k) ∙ e) size (λ h. ne (omega arith))
    ∙ sym (at_later w xs i q j)))

-- ---- what stays of an object: its type and its size

pub data Mould : Type 0 where
  OfClass : (class : Id) (count : ℕ) → Mould
  OfText : (count : ℕ) → Mould
  OfElements : (element : CliType) (count : ℕ) → Mould
  OfBox : (type : CliType) → Mould
  OfStatic : (type : CliType) → Mould

abbrev pub mould_of : Thing → Mould
mould_of (Instance class fields) = OfClass class (length fields)
mould_of (Text units) = OfText (length units)
mould_of (Elements element values) = OfElements element (length values)
mould_of (Boxed type value) = OfBox type
mould_of (StaticCell type value) = OfStatic type

abbrev pub mould_at : List Thing → ℕ → Option Mould
mould_at heap n = on_some (thing_at heap n) (λ x. Some (mould_of x))

pub mould_there : (heap : List Thing) (n : ℕ) (x : Thing) → thing_at heap n ≡ Some x → mould_at heap n ≡ Some (mould_of x)
mould_there heap n x e = ap (λ o. on_some o (λ x. Some (mould_of x))) e

-- what a mould says of the size
abbrev mould_size : Mould → ℕ
mould_size (OfClass class count) = thing_size (Instance class (replicate count Value.Null))
mould_size (OfText count) = thing_size (Text (replicate count 0))
mould_size (OfElements element count) = thing_size (Elements element (replicate count Value.Null))
mould_size (OfBox type) = 2
mould_size (OfStatic type) = 1

pub length-replicate : {A : Type 0} (n : ℕ) (x : A) → length (replicate n x) ≡ n
length-replicate zero x = refl
length-replicate (suc n) x = ap suc (length-replicate n x)

size_by_mould : (x : Thing) → thing_size x ≡ mould_size (mould_of x)
size_by_mould (Instance class fields) = ap (λ n. 1 + n) (sym (length-replicate (length fields) Value.Null))
size_by_mould (Text units) = ap (λ n. 1 + (n + 5) / 6) (sym (length-replicate (length units) 0))
size_by_mould (Elements element values) = ap (λ n. 1 + (n * element_bytes (cell_of element) + 11) / 12) (sym (length-replicate (length values) Value.Null))
size_by_mould (Boxed type value) = refl
size_by_mould (StaticCell type value) = refl

pub same_size : (x y : Thing) → mould_of y ≡ mould_of x → thing_size y ≡ thing_size x
same_size x y e = size_by_mould y ∙ ap mould_size e ∙ sym (size_by_mould x)

pub same_or_not : (i k : ℕ) → (i ≡ k) ⊎ (i ≡ k → ⊥)
same_or_not zero zero = inl refl
same_or_not zero (suc k) = inr (λ e. cc e)
same_or_not (suc i) zero = inr (λ e. cc e)
same_or_not (suc i) (suc k) = ⊎_elim (λ e. inl (ap suc e)) (λ n. inr (λ e. n (cc e))) (same_or_not i k)

-- objects keep their numbers, types and sizes
pub record Extends (old new : List Thing) : Type 0 where
  pub keeps : (n : ℕ) (x : Mould) → mould_at old n ≡ Some x → mould_at new n ≡ Some x

pub same_heap : (h : List Thing) → Extends h h
same_heap h = record { keeps = λ n x e. e }

-- a new object
pub grows : (heap : List Thing) (x : Thing) → Extends heap (heap ++ x ∷ [])
grows heap x =
    record { keeps = λ n z e. let y = some_inv (thing_at heap n) (λ x. Some (mould_of x)) z e in subst (λ o. on_some o (λ x. Some (mould_of x)) ≡ Some z) (sym (get_append heap (x ∷ []) n y.0 y.1)) y.2 }

-- an object gets other values
pub puts : (heap : List Thing) (n : ℕ) (x y : Thing) → thing_at heap n ≡ Some x → mould_of y ≡ mould_of x → Extends heap (put_thing heap n y)
puts heap n x y e same = record { keeps = λ i z h. at i z h (same_or_not i n) }
  where
    at : (i : ℕ) (z : Mould) → mould_at heap i ≡ Some z → (i ≡ n) ⊎ (i ≡ n → ⊥) → mould_at (put_thing heap n y) i ≡ Some z
    at i z h (inl k) =
        let old : Some (mould_of x) ≡ Some z = sym (mould_there heap n x e) ∙ subst (λ j. mould_at heap j ≡ Some z) k h in
        subst (λ j. mould_at (put_thing heap n y) j ≡ Some z) (sym k) (mould_there (put_thing heap n y) n y (put_same heap n x y e) ∙ ap Some same ∙ old)
    at i z h (inr k) = subst (λ o. on_some o (λ x. Some (mould_of x)) ≡ Some z) (sym (put_other heap n i x y e (same_size x y same) k)) h

-- what lies in the heap after it
pub put_either : (heap : List Thing) (n : ℕ) (x y : Thing) → thing_at heap n ≡ Some x → mould_of y ≡ mould_of x → (i : ℕ) (z : Thing) → thing_at (put_thing heap n y) i ≡ Some z → (thing_at heap i ≡ Some z) ⊎ (z ≡ y)
put_either heap n x y e same i z h = at (same_or_not i n)
  where
    at : (i ≡ n) ⊎ (i ≡ n → ⊥) → (thing_at heap i ≡ Some z) ⊎ (z ≡ y)
    at (inl k) = inr (some_same z y (sym (subst (λ j. thing_at (put_thing heap n y) j ≡ Some z) k h) ∙ put_same heap n x y e))
    at (inr k) = inl (sym (put_other heap n i x y e (same_size x y same) k) ∙ h)
