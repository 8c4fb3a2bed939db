-- A part that is read is the part that is spelled, and what is spelled is read again: numbers and tokens.
use Rattle.std.proofs.Common.{◌≡◌, ℕ, ◌+◌, ◌-◌, ◌*◌, ◌%◌, ◌^◌, Bool, true, false, cond, ltb, List, [], ◌∷◌, ◌++◌, length, Some, None, Ok, Err, refl, subst}
use Rattle.std.specs.Option.{ok_or}
use Rattle.std.proofs.lemmas.Bool.{ltb-true, ltb-false, lt-ltb, le-ltb}
use Rattle.cil_sig.specs.declared.elements.TheConstants.{MAX_COUNT}
use Rattle.file_tables.specs.Compressed.{IsCompressed, compressed_at, second_byte, three_bytes}
use Rattle.file_tables.proofs.CompressedLaws.{compressed_again}
use Rattle.cil_sig.specs.Reading.{◌>>=◌, Part, no_case, number_at, count_at, token_at}
use Rattle.cil_sig.specs.Spelling.{IsToken, IsCount}

-- what a reader took from the front, and left
pub record Takes {X : Type 0} (Is : List ℕ → X → Type 0) (bytes : List ℕ) (x : X × List ℕ) : Type 0 where
  pub text : List ℕ
  pub parts : bytes ≡ text ++ x.1
  pub is : Is text x.0

-- the value of a step that found a case
pub bind_ok : {A B : Type 0} (part : Part A) (f : A → Part B) (y : B) → (part >>= f) ≡ Ok y → (x : A) × (part ≡ Ok x) × (f x ≡ Ok y)
bind_ok (Ok x) f y e = (x, refl, e)
bind_ok (Err left) f y e = absurd cc

-- a test that didn't refuse
pub not_refused : {A : Type 0} (b : Bool) (left : ℕ) (x y : A) → cond b (Err left) (Ok x) ≡ Ok y → (b ≡ false) × (x ≡ y)
not_refused true left x y e = absurd cc
not_refused false left x y e = (refl, cc)

pub accepted : {A : Type 0} (b : Bool) (left : ℕ) (x y : A) → cond b (Ok x) (Err left) ≡ Ok y → (b ≡ true) × (x ≡ y)
accepted true left x y e = (refl, cc)
accepted false left x y e = absurd cc

pub ok_is : {A : Type 0} (x y : A) → Path (Part A) (Ok x) (Ok y) → x ≡ y
ok_is x y e = cc

-- a number whose form is told
form_takes : (one two four : Bool) (a : ℕ) (rest : List ℕ) (left : ℕ) (x : ℕ × List ℕ) → ltb a 0x80 ≡ one → ltb a 0xC0 ≡ two → ltb a 0xE0 ≡ four
    → ok_or (cond one (Some (a, rest)) (cond two (second_byte a rest) (cond four (three_bytes a rest) None))) left ≡ Ok x → Takes IsCompressed (a ∷ rest) x
form_takes true two four a rest left x p q r e = subst (Takes IsCompressed (a ∷ rest)) (ok_is (a, rest) x e) (record { text = a ∷ []; parts = refl; is = (ltb-true _ _ p, refl) })
form_takes false true four a [] left x p q r e = absurd cc
form_takes false true four a (b ∷ rest) left x p q r e =
    subst (Takes IsCompressed (a ∷ b ∷ rest)) (ok_is ((a - 0x80) * 2 ^ 8 + b, rest) x e) (record { text = a ∷ b ∷ []; parts = refl; is = (ltb-false _ _ p, ltb-true _ _ q, refl) })
form_takes false false true a [] left x p q r e = absurd cc
form_takes false false true a (b ∷ []) left x p q r e = absurd cc
form_takes false false true a (b ∷ c ∷ []) left x p q r e = absurd cc
form_takes false false true a (b ∷ c ∷ d ∷ rest) left x p q r e =
    subst (Takes IsCompressed (a ∷ b ∷ c ∷ d ∷ rest)) (ok_is ((a - 0xC0) * 2 ^ 24 + b * 2 ^ 16 + c * 2 ^ 8 + d, rest) x e) (record { text = a ∷ b ∷ c ∷ d ∷ []; parts = refl; is = (ltb-false _ _ q, ltb-true _ _ r, refl) })
form_takes false false false a rest left x p q r e = absurd cc

pub number_takes : (bytes : List ℕ) (x : ℕ × List ℕ) → number_at bytes ≡ Ok x → Takes IsCompressed bytes x
unfolding number_at compressed_at
number_takes [] x e = absurd cc
number_takes (a ∷ rest) x e = form_takes _ _ _ a rest (length (a ∷ rest)) x refl refl refl e

pub number_again : (text rest : List ℕ) (n : ℕ) → IsCompressed text n → number_at (text ++ rest) ≡ Ok (n, rest)
unfolding number_at
number_again text rest n is = rw (compressed_again text rest n is) refl

pub count_takes : (bytes : List ℕ) (x : ℕ × List ℕ) → count_at bytes ≡ Ok x → Takes IsCount bytes x
unfolding count_at
count_takes bytes x e =
    let a = bind_ok (number_at bytes) (λ count. cond (ltb MAX_COUNT count.0) (no_case bytes) (Ok count)) x e in
    let g = not_refused (ltb MAX_COUNT a.0.0) (length bytes) a.0 x a.2 in
    let t = number_takes bytes a.0 a.1 in
    subst (Takes IsCount bytes) g.1 (record { text = t.text; parts = t.parts; is = (t.is, ltb-false _ _ g.0) })

pub count_again : (text rest : List ℕ) (n : ℕ) → IsCount text n → count_at (text ++ rest) ≡ Ok (n, rest)
unfolding count_at
count_again text rest n is =
    let few : ltb MAX_COUNT n ≡ false = le-ltb _ _ is.1 in
    rw (number_again text rest n is.0, few) refl

pub token_takes : (bytes : List ℕ) (x : ℕ × List ℕ) → token_at bytes ≡ Ok x → Takes IsToken bytes x
unfolding token_at
token_takes bytes x e =
    let a = bind_ok (number_at bytes) (λ token. cond (ltb (token.0 % 4) 2) (Ok token) (no_case bytes)) x e in
    let g = accepted (ltb (a.0.0 % 4) 2) (length bytes) a.0 x a.2 in
    let t = number_takes bytes a.0 a.1 in
    subst (Takes IsToken bytes) g.1 (record { text = t.text; parts = t.parts; is = (t.is, ltb-true _ _ g.0) })

pub token_again : (text rest : List ℕ) (n : ℕ) → IsToken text n → token_at (text ++ rest) ≡ Ok (n, rest)
unfolding token_at
token_again text rest n is =
    let tag : ltb (n % 4) 2 ≡ true = lt-ltb _ _ is.1 in
    rw (number_again text rest n is.0, tag) refl
