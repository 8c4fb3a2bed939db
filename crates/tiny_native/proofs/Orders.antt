-- The order of two texts, unit by unit.
use Rattle.std.proofs.Common.{◌≡◌, ◌⊎◌, inl, inr, ⊎_elim, ℕ, suc, ◌+◌, ◌<◌, ◌≤◌, Bool, false, ◌==◌, List, [], ◌∷◌, length, drop, get_or, Option, Some, None, refl, sym, ap, ◌∙◌, subst, arith}
use Rattle.std.specs.Prelude.{ℤ, pos, negsuc, nat_lt, if◌then◌else◌, ◌&&◌}
use Rattle.std.specs.Int.{w32, cast_signed, cast_unsigned}
use Rattle.std.proofs.lemmas.Bool.{cases_eq, cases_lt, le-ltb, lt-ltb, ne_eqb, eq-eqb}
use Rattle.std.proofs.Math.Seq.{drop-cons}
use Rattle.std.proofs.lemmas.List.{drop_all}
use Rattle.machine.specs.Texts.{same_text, compared_texts}
use Rattle.machine.specs.Natives.{texts_equal, texts_compared}
use Rattle.tiny_native.specs.Copies.{number_order}

-- by the first numbers, and else by the rest
abbrev pub pick : ℕ → ℕ → ℤ → ℤ
pick x y rest = if nat_lt x y then negsuc 0 else (if nat_lt y x then pos 1 else rest)

pub compared_at : (xs ys : List ℕ) (k : ℕ) → k < length xs → k < length ys → compared_texts (drop k xs) (drop k ys) ≡ pick (get_or xs k 0) (get_or ys k 0) (compared_texts (drop (k + 1) xs) (drop (k + 1) ys))
compared_at xs ys k h g =
    let next : suc k ≡ k + 1 = omega arith in
    subst (λ j. compared_texts (drop k xs) (drop k ys) ≡ pick (get_or xs k 0) (get_or ys k 0) (compared_texts (drop j xs) (drop j ys))) next (
    ap (λ l. compared_texts l (drop k ys)) (drop-cons xs k 0 h)
    ∙ ap (λ l. compared_texts (get_or xs k 0 ∷ drop (suc k) xs) l) (drop-cons ys k 0 g))

pick_less : (x y : ℕ) (r : ℤ) → x < y → pick x y r ≡ negsuc 0
pick_less x y r h = ap (λ (b : Bool). if b then negsuc 0 else (if nat_lt y x then pos 1 else r)) (lt-ltb x y h)

pick_more : (x y : ℕ) (r : ℤ) → y < x → pick x y r ≡ pos 1
pick_more x y r h =
    ap (λ (b : Bool). if b then negsuc 0 else (if nat_lt y x then pos 1 else r)) (le-ltb x y (omega (arith, h)))
    ∙ ap (λ (b : Bool). if b then pos 1 else r) (lt-ltb y x h)

pub pick_same : (x y : ℕ) (r : ℤ) → x ≡ y → pick x y r ≡ r
pick_same x y r h =
    ap (λ (b : Bool). if b then negsuc 0 else (if nat_lt y x then pos 1 else r)) (le-ltb x y (omega (arith, h)))
    ∙ ap (λ (b : Bool). if b then pos 1 else r) (le-ltb y x (omega (arith, h)))

-- three cases of two numbers
cases_three : {C : Type 0} → (x y : ℕ) → (x < y → C) → (y < x → C) → (x ≡ y → C) → C
cases_three x y f g h = ⊎_elim f (λ (le : y ≤ x). ⊎_elim g (λ (ge : x ≤ y). h (omega (arith, le, ge))) (cases_lt y x)) (cases_lt x y)

-- numbers that differ settle the order, and equal ones don't
pub pick_differ : (x y : ℕ) (r : ℤ) → (x ≡ y → ⊥) → pick x y r ≡ number_order x y
pick_differ x y r d = cases_three x y
    (λ h. pick_less x y r h ∙ sym (pick_less x y (pos 0) h))
    (λ h. pick_more x y r h ∙ sym (pick_more x y (pos 0) h))
    (λ h. absurd (d h))

compared_shorter : (ys : List ℕ) (n : ℕ) → n < length ys → compared_texts [] (drop n ys) ≡ negsuc 0
compared_shorter ys n h = ap (λ l. compared_texts [] l) (drop-cons ys n 0 h)

compared_longer : (xs : List ℕ) (n : ℕ) → n < length xs → compared_texts (drop n xs) [] ≡ pos 1
compared_longer xs n h = ap (λ l. compared_texts l []) (drop-cons xs n 0 h)

-- behind the shorter one the lengths settle it
pub compared_end : (xs ys : List ℕ) (n : ℕ) → n ≤ length xs → n ≤ length ys → (n ≡ length xs → ⊥) → n ≡ length ys → compared_texts (drop n xs) (drop n ys) ≡ number_order (length xs) (length ys)
compared_end xs ys n a b d e =
    ap (λ l. compared_texts (drop n xs) l) (drop_all n ys (omega (arith, e)))
    ∙ compared_longer xs n (omega (arith, a, d))
    ∙ sym (pick_more (length xs) (length ys) (pos 0) (omega (arith, a, d, e)))

pub compared_ends : (xs ys : List ℕ) (n : ℕ) → n ≡ length xs → n ≤ length ys → compared_texts (drop n xs) (drop n ys) ≡ number_order (length xs) (length ys)
compared_ends xs ys n e b =
    ap (λ l. compared_texts l (drop n ys)) (drop_all n xs (omega (arith, e)))
    ∙ ⊎_elim
    (λ (lt : n < length ys). compared_shorter ys n lt ∙ sym (pick_less (length xs) (length ys) (pos 0) (omega (arith, e, lt))))
    (λ (le : length ys ≤ n). ap (λ l. compared_texts [] l) (drop_all n ys le) ∙ sym (pick_same (length xs) (length ys) (pos 0) (omega (arith, e, le, b))))
    (cases_lt n (length ys))

pub compared_last : (xs ys : List ℕ) (n : ℕ) → n ≤ length xs → n ≤ length ys → (n ≡ length xs) ⊎ (n ≡ length ys) → compared_texts (drop n xs) (drop n ys) ≡ number_order (length xs) (length ys)
compared_last xs ys n a b o = elim (cases_eq n (length xs)) [
  | inl q ↦ compared_ends xs ys n q b
  | inr d ↦ ⊎_elim (λ (q : n ≡ length xs). absurd (d q)) (λ (q : n ≡ length ys). compared_end xs ys n a b d q) o
]

-- texts are the same where no one comes first
abbrev pub is_none_first : ℤ → Bool
is_none_first (pos n) = n == 0
is_none_first (negsuc n) = false

same_compared : (xs ys : List ℕ) → same_text xs ys ≡ is_none_first (compared_texts xs ys)
same_compared [] [] = refl
same_compared [] (y ∷ ys) = refl
same_compared (x ∷ xs) [] = refl
same_compared (x ∷ xs) (y ∷ ys) = cases_three x y
    (λ h. ap (λ (b : Bool). b && same_text xs ys) (ne_eqb x y (λ e. omega (arith, h, e))) ∙ sym (ap is_none_first (pick_less x y (compared_texts xs ys) h)))
    (λ h. ap (λ (b : Bool). b && same_text xs ys) (ne_eqb x y (λ e. omega (arith, h, e))) ∙ sym (ap is_none_first (pick_more x y (compared_texts xs ys) h)))
    (λ h. ap (λ (b : Bool). b && same_text xs ys) (eq-eqb x y h) ∙ same_compared xs ys ∙ sym (ap is_none_first (pick_same x y (compared_texts xs ys) h)))

pub equal_compared : (a b : Option (List ℕ)) → texts_equal a b ≡ is_none_first (texts_compared a b)
equal_compared None None = refl
equal_compared None (Some ys) = refl
equal_compared (Some xs) None = refl
equal_compared (Some xs) (Some ys) = same_compared xs ys

-- an order goes through 32 bits
pub order_back : (x y : ℕ) → cast_signed w32 (cast_unsigned w32 (number_order x y)) ≡ number_order x y
order_back x y = cases_three x y
    (λ h. ap (λ z. cast_signed w32 (cast_unsigned w32 z)) (pick_less x y (pos 0) h) ∙ sym (pick_less x y (pos 0) h))
    (λ h. ap (λ z. cast_signed w32 (cast_unsigned w32 z)) (pick_more x y (pos 0) h) ∙ sym (pick_more x y (pos 0) h))
    (λ h. ap (λ z. cast_signed w32 (cast_unsigned w32 z)) (pick_same x y (pos 0) h) ∙ sym (pick_same x y (pos 0) h))

pub compared_back : (xs ys : List ℕ) → cast_signed w32 (cast_unsigned w32 (compared_texts xs ys)) ≡ compared_texts xs ys
compared_back [] [] = refl
compared_back [] (y ∷ ys) = refl
compared_back (x ∷ xs) [] = refl
compared_back (x ∷ xs) (y ∷ ys) = cases_three x y
    (λ h. ap (λ z. cast_signed w32 (cast_unsigned w32 z)) (pick_less x y (compared_texts xs ys) h) ∙ sym (pick_less x y (compared_texts xs ys) h))
    (λ h. ap (λ z. cast_signed w32 (cast_unsigned w32 z)) (pick_more x y (compared_texts xs ys) h) ∙ sym (pick_more x y (compared_texts xs ys) h))
    (λ h. ap (λ z. cast_signed w32 (cast_unsigned w32 z)) (pick_same x y (compared_texts xs ys) h) ∙ compared_back xs ys ∙ sym (pick_same x y (compared_texts xs ys) h))

pub texts_back : (a b : Option (List ℕ)) → cast_signed w32 (cast_unsigned w32 (texts_compared a b)) ≡ texts_compared a b
texts_back None None = refl
texts_back None (Some ys) = refl
texts_back (Some xs) None = refl
texts_back (Some xs) (Some ys) = compared_back xs ys

pub none_first : (z : ℤ) → (z ≡ pos 0 → ⊥) → is_none_first z ≡ false
none_first (pos n) h = ne_eqb n 0 (λ e. h (ap pos e))
none_first (negsuc n) h = refl
