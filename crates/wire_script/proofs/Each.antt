-- Words that are read one by one.
use Rattle.std.proofs.Common.{◌≡◌, ℕ, ◌+◌, ◌<◌, ◌≤◌, List, [], ◌∷◌, ◌++◌, map, length, drop, get_or, Option, Some, None, refl, sym, ap, ◌∙◌, arith}
use Rattle.std.specs.Prelude.{option_map, option_and_then, if◌then◌else◌, ◌&&◌, nat_le, Bool, true, false}
use Rattle.std.proofs.lemmas.List.{append_assoc, drop_more}
use Rattle.numerals.specs.Numerals.{is_numeral, number_up_to}
use Rattle.std.specs.Str.Parse.{digits_value}
use Rattle.std.proofs.lemmas.Bool.{leb-true}
use Rattle.wire_script.specs.Net.{each}

-- the values so far, and those that are still to come
abbrev pub with_front : {X : Type 0} → List X → Option (List X) → Option (List X)
with_front front rest = option_map (λ xs. front ++ xs) rest

with_front_twice : {X : Type 0} (front : List X) (x : X) (rest : Option (List X)) → with_front front (option_map (λ xs. x ∷ xs) rest) ≡ with_front (front ++ x ∷ []) rest
with_front_twice front x None = refl
with_front_twice front x (Some xs) = ap Some (sym (append_assoc front (x ∷ []) xs))

pub each_more : {X : Type 0} (value : List ℕ → Option X) (front : List X) (word : List ℕ) (words : List (List ℕ)) (x : X) → value word ≡ Some x
    → with_front front (each value (word ∷ words)) ≡ with_front (front ++ x ∷ []) (each value words)
each_more {X} value front word words x is =
    ap (λ (o : Option X). with_front front (option_and_then (λ y. option_map (λ xs. y ∷ xs) (each value words)) o)) is ∙ with_front_twice front x (each value words)

pub each_none : {X : Type 0} (value : List ℕ → Option X) (front : List X) (word : List ℕ) (words : List (List ℕ)) → value word ≡ None
    → with_front front (each value (word ∷ words)) ≡ None
each_none {X} value front word words is = ap (λ (o : Option X). with_front front (option_and_then (λ y. option_map (λ xs. y ∷ xs) (each value words)) o)) is

pub with_none : {X : Type 0} (front : List X) (o : Option (List X)) → with_front front o ≡ None → o ≡ None
with_none front None is = refl
with_none front (Some xs) is = absurd (cc)

pub with_nothing : {X : Type 0} (o : Option (List X)) → with_front [] o ≡ o
with_nothing None = refl
with_nothing (Some xs) = refl

-- the words from the i-th on
pub words_more : {R : Type 0} (now : R → List ℕ) (refs : List R) (i : ℕ) (d : R) → i < length refs → map now (drop i refs) ≡ now (get_or refs i d) ∷ map now (drop (i + 1) refs)
words_more now refs i d below = ap (map now) (drop_more refs i d below)

small_if : (b c : Bool) (n m k : ℕ) → (c ≡ true → n ≤ m) → (if b && c then Some n else None) ≡ Some k → k ≤ m
small_if true true n m k small is = let e : n ≡ k = cc in let h = small refl in omega arith
small_if true false n m k small is = absurd (cc)
small_if false c n m k small is = absurd (cc)

-- a number is at most its bound
pub number_up_to-le : (most : ℕ) (word : List ℕ) (n : ℕ) → number_up_to most word ≡ Some n → n ≤ most
unfolding number_up_to
number_up_to-le most word n is = small_if (is_numeral word) (nat_le (digits_value 10 word) most) (digits_value 10 word) most n (λ h. leb-true (digits_value 10 word) most h) is
