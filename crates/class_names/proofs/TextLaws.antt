-- Texts as units, character by character.
use Rattle.std.proofs.Common.{◌≡◌, ℕ, zero, suc, ◌+◌, ◌-◌, ◌/◌, ◌%◌, ◌<◌, ◌≤◌, Bool, true, false, List, [], ◌∷◌, ◌++◌, length, Option, Some, None, refl, sym, ap, ◌∙◌, arith, inl, inr, append_assoc}
use Rattle.std.specs.Prelude.{cond, slice_get, nat_lt, encode_utf8, ◌==◌, Result, Ok, Err, IfErr}
use Rattle.std.specs.Char.{len_utf8}
use Rattle.std.specs.Char.Escape.{encode_utf16}
use Rattle.std.specs.Str.{IsUtf8, chars}
use Rattle.std.proofs.lemmas.Bool.{cases_lt, lt-ltb, le-ltb}
use Rattle.std.proofs.lemmas.Str.{chars_past_char, chars-nil, length-encode}
use Rattle.std.proofs.lemmas.List.{nil_from_length}
use Rattle.machine.specs.Texts.{utf16_of, units_of_name}
use Rattle.class_names.specs.Units.{joined}

-- ---- lists that are joined

pub get_front : {A : Type 0} (xs ys : List A) (k : ℕ) (x : A) → slice_get xs k ≡ Some x → slice_get (xs ++ ys) k ≡ Some x
get_front [] ys k x e = cc e
get_front (y ∷ xs) ys zero x e = e
get_front (y ∷ xs) ys (suc k) x e = get_front xs ys k x e

behind : {A : Type 0} (xs ys : List A) (k : ℕ) → slice_get (xs ++ ys) (length xs + k) ≡ slice_get ys k
behind [] ys k = ap (slice_get ys) none
  where
    none : zero + k ≡ k
    none = omega arith
behind (x ∷ xs) ys k = ap (slice_get (x ∷ (xs ++ ys))) more ∙ behind xs ys k
  where
    more : length (x ∷ xs) + k ≡ suc (length xs + k)
    more = omega arith

pub get_behind : {A : Type 0} (xs ys : List A) (k left : ℕ) → k ≡ length xs + left → slice_get (xs ++ ys) k ≡ slice_get ys left
get_behind xs ys k left e = ap (slice_get (xs ++ ys)) e ∙ behind xs ys left

pub joined_length : {A : Type 0} (xs ys : List A) → length (xs ++ ys) ≡ length xs + length ys
joined_length [] ys = omega arith
joined_length (x ∷ xs) ys = let more = joined_length xs ys in omega (arith, more)

-- ---- a text that is gone through

-- all units are some before a place and the rest, and of a number so many are left there
pub record Goes (all rest : List ℕ) (k left : ℕ) : Type 0 where
  pub before : List ℕ
  pub is : all ≡ before ++ rest
  pub at : k ≡ length before + left

pub start : (all rest : List ℕ) (k : ℕ) → all ≡ rest → Goes all rest k k
start all rest k e = record { before = []; is = e; at = omega arith }

pub go_on : (all rest front more : List ℕ) (k left past : ℕ) → Goes all rest k left → rest ≡ front ++ more → left ≡ length front + past → Goes all more k past
go_on all rest front more k left past g e at =
    let many = joined_length g.before front in
    let here = g.at in
    record { before = g.before ++ front; is = g.is ∙ ap (λ xs. g.before ++ xs) e ∙ sym (append_assoc g.before front more); at = omega (arith, many, here, at) }

pub found : (all rest front more : List ℕ) (k left unit : ℕ) → Goes all rest k left → rest ≡ front ++ more → slice_get front left ≡ Some unit → slice_get all k ≡ Some unit
found all rest front more k left unit g e at =
    ap (λ xs. slice_get xs k) g.is ∙ get_behind g.before rest k left g.at ∙ ap (λ xs. slice_get xs left) e ∙ get_front front more left unit at

pub all_past : (all rest : List ℕ) (k left : ℕ) → Goes all rest k left → rest ≡ [] → k ≡ length all + left
all_past all rest k left g e =
    let whole = ap length g.is in
    let many = joined_length g.before rest in
    let none = ap length e in
    let here = g.at in
    omega (arith, whole, many, none, here)

-- ---- characters

pub split_units : (bytes more : List ℕ) (c : ℕ) → IsUtf8 bytes → bytes ≡ encode_utf8 c ++ more → units_of_name bytes ≡ encode_utf16 c ++ units_of_name more
split_units bytes more c u e = ap utf16_of (chars_past_char bytes more c u e)

pub no_units : (bytes : List ℕ) → length bytes ≡ 0 → units_of_name bytes ≡ []
no_units bytes e = ap units_of_name (nil_from_length bytes e) ∙ ap utf16_of chars-nil

-- one unit, or two
abbrev pair_count : ℕ → Bool → ℕ
pair_count c b = length (cond b (c ∷ []) ((0xD800 + (c - 0x1_0000) / 0x400) ∷ (0xDC00 + (c - 0x1_0000) % 0x400) ∷ []))

pub unit_count : (c n : ℕ) → (c < 0x1_0000 → n ≡ 1) → (0x1_0000 ≤ c → n ≡ 2) → n ≡ length (encode_utf16 c)
unit_count c n one two =
    elim (cases_lt c 0x1_0000) [
      | inl low ↦ one low ∙ sym (ap (pair_count c) (lt-ltb c 0x1_0000 low))
      | inr high ↦ two high ∙ sym (ap (pair_count c) (le-ltb c 0x1_0000 high))
    ]

-- not more units than bytes
pub units_short : (c : ℕ) → length (encode_utf16 c) ≤ len_utf8 c
units_short c =
    elim (cases_lt c 0x1_0000) [
      | inl low ↦ let one = ap (pair_count c) (lt-ltb c 0x1_0000 low) in let some = least (nat_lt c 0x80) (nat_lt c 0x800) (nat_lt c 0x1_0000) in omega (arith, one, some)
      | inr high ↦
          let two = ap (pair_count c) (le-ltb c 0x1_0000 high) in
          let four : len_utf8 c ≡ 4 =
          ap (λ b. cond b 1 (cond (nat_lt c 0x800) 2 (cond (nat_lt c 0x1_0000) 3 4))) (le-ltb c 0x80 (omega (arith, high)))
          ∙ ap (λ b. cond b 2 (cond (nat_lt c 0x1_0000) 3 4)) (le-ltb c 0x800 (omega (arith, high)))
          ∙ ap (λ b. cond b 3 4) (le-ltb c 0x1_0000 high) in
          omega (arith, two, four)
    ]
  where
    least : (a b d : Bool) → 1 ≤ cond a 1 (cond b 2 (cond d 3 4))
    least true b d = omega arith
    least false true d = omega arith
    least false false true = omega arith
    least false false false = omega arith

-- a character that was passed has as many units as it is counted for, and not more than it has bytes
pub one_more : (bytes more : List ℕ) (c n : ℕ) → (c < 0x1_0000 → n ≡ 1) → (0x1_0000 ≤ c → n ≡ 2) → bytes ≡ encode_utf8 c ++ more → n + length more ≤ length bytes
one_more bytes more c n one two e =
    let count = unit_count c n one two in
    let short = units_short c in
    let size = length-encode c in
    let whole = ap length e in
    let joined = joined_length (encode_utf8 c) more in
    omega (arith, count, short, size, whole, joined)

-- ---- a namespace, a dot and a name

pub spaced : (namespace name : List ℕ) (empty : Bool) → empty ≡ (length namespace == 0) → empty ≡ false → joined namespace name ≡ units_of_name namespace ++ (46 ∷ units_of_name name)
spaced [] name empty p q = absurd (cc (sym p ∙ q))
spaced (x ∷ xs) name empty p q = refl

pub spaced_length : (namespace name : List ℕ) (empty : Bool) → empty ≡ (length namespace == 0) → empty ≡ false → length (joined namespace name) ≡ length (units_of_name namespace) + 1 + length (units_of_name name)
spaced_length namespace name empty p q =
    let whole = ap length (spaced namespace name empty p q) in
    let many = joined_length (units_of_name namespace) (46 ∷ units_of_name name) in
    omega (arith, whole, many)

next_get : (x : ℕ) (xs : List ℕ) (n : ℕ) → 0 < n → slice_get (x ∷ xs) n ≡ slice_get xs (n - 1)
next_get x xs zero h = absurd (omega (arith, h))
next_get x xs (suc n) h = ap (slice_get xs) (omega arith)

pub in_name : (namespace name : List ℕ) (empty : Bool) (k left : ℕ) → empty ≡ (length namespace == 0) → empty ≡ false → k ≡ length (units_of_name namespace) + left → 0 < left → slice_get (joined namespace name) k ≡ slice_get (units_of_name name) (left - 1)
in_name namespace name empty k left p q at high =
    ap (λ xs. slice_get xs k) (spaced namespace name empty p q)
    ∙ get_behind (units_of_name namespace) (46 ∷ units_of_name name) k left at
    ∙ next_get 46 (units_of_name name) left high

pub err_map : {A E : Type 0} (r : Result A E) (P Q : E → Type 0) → ((e : E) → P e → Q e) → IfErr r P → IfErr r Q
err_map (Ok x) P Q f h = tt
err_map (Err e) P Q f h = f e h
