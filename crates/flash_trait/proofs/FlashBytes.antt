-- What a mask leaves of a byte, and which mask leaves it.
use Rattle.std.proofs.Common.{◌≡◌, ℕ, zero, suc, ◌+◌, ◌%◌, ◌<◌, Bool, true, false, ◌||◌, refl, sym, ap, ◌∙◌, inl, inr, ◌⊎◌, arith}
use Rattle.std.specs.Prelude.{◌==◌, min, bit_and, bit_xor, if◌then◌else◌}
use Rattle.std.specs.Int.{bit_at}
use Rattle.std.specs.Int.Bits.{xor_self, and_zero_r}
use Rattle.std.proofs.lemmas.Nat.Bits.{bit_at_and, bit_at_xor, bit_at-zero, bit_at-lt, same_from_bits}
use Rattle.std.proofs.lemmas.Nat.{xor_of_8}
use Rattle.std.proofs.lemmas.Bool.{eq-eqb, eqb-true, cases_Bool, or_cases, or_left, or_right}
use Rattle.flash_trait.specs.Flash.{Operation, Program, Erase, wanted, may_stand, chosen}

-- one bit
one_mixed : (x y m : ℕ) → x < 2 → y < 2 → m < 2 → min (((x + min m ((x + y) % 2)) % 2 + x) % 2) (((x + min m ((x + y) % 2)) % 2 + y) % 2) ≡ 0
one_mixed zero zero zero a b c = refl
one_mixed zero zero (suc zero) a b c = refl
one_mixed zero (suc zero) zero a b c = refl
one_mixed zero (suc zero) (suc zero) a b c = refl
one_mixed (suc zero) zero zero a b c = refl
one_mixed (suc zero) zero (suc zero) a b c = refl
one_mixed (suc zero) (suc zero) zero a b c = refl
one_mixed (suc zero) (suc zero) (suc zero) a b c = refl
one_mixed (suc (suc x)) y m a b c = absurd (omega arith)
one_mixed x (suc (suc y)) m a b c = absurd (omega arith)
one_mixed x y (suc (suc m)) a b c = absurd (omega arith)

one_spelt : (x y z : ℕ) → x < 2 → y < 2 → z < 2 → min ((z + x) % 2) ((z + y) % 2) ≡ 0 → (x + min ((z + x) % 2) ((x + y) % 2)) % 2 ≡ z
one_spelt zero zero zero a b c h = refl
one_spelt zero zero (suc zero) a b c h = absurd (omega arith)
one_spelt zero (suc zero) zero a b c h = refl
one_spelt zero (suc zero) (suc zero) a b c h = refl
one_spelt (suc zero) zero zero a b c h = refl
one_spelt (suc zero) zero (suc zero) a b c h = refl
one_spelt (suc zero) (suc zero) zero a b c h = absurd (omega arith)
one_spelt (suc zero) (suc zero) (suc zero) a b c h = refl
one_spelt (suc (suc x)) y z a b c h = absurd (omega arith)
one_spelt x (suc (suc y)) z a b c h = absurd (omega arith)
one_spelt x y (suc (suc z)) a b c h = absurd (omega arith)

abbrev flipped : ℕ → ℕ → ℕ → ℕ
flipped x y m = bit_xor x (bit_and m (bit_xor x y))

bit_at-flipped : (x y m i : ℕ) → bit_at (flipped x y m) i ≡ (bit_at x i + min (bit_at m i) ((bit_at x i + bit_at y i) % 2)) % 2
bit_at-flipped x y m i =
    bit_at_xor x (bit_and m (bit_xor x y)) i
    ∙ ap (λ (b : ℕ). (bit_at x i + b) % 2) (bit_at_and m (bit_xor x y) i ∙ ap (λ (b : ℕ). min (bit_at m i) b) (bit_at_xor x y i))

bit_at-both : (x y z i : ℕ) → bit_at (bit_and (bit_xor z x) (bit_xor z y)) i ≡ min ((bit_at z i + bit_at x i) % 2) ((bit_at z i + bit_at y i) % 2)
bit_at-both x y z i =
    bit_at_and (bit_xor z x) (bit_xor z y) i
    ∙ ap (λ (b : ℕ). min b (bit_at (bit_xor z y) i)) (bit_at_xor z x i)
    ∙ ap (λ (b : ℕ). min ((bit_at z i + bit_at x i) % 2) b) (bit_at_xor z y i)

-- what a mask leaves mixes the two bytes
mixed : (x y m : ℕ) → bit_and (bit_xor (flipped x y m) x) (bit_xor (flipped x y m) y) ≡ 0
mixed x y m =
    same_from_bits _ 0 (λ i.
    bit_at-both x y (flipped x y m) i
    ∙ ap (λ (b : ℕ). min ((b + bit_at x i) % 2) ((b + bit_at y i) % 2)) (bit_at-flipped x y m i)
    ∙ one_mixed (bit_at x i) (bit_at y i) (bit_at m i) (bit_at-lt x i) (bit_at-lt y i) (bit_at-lt m i)
    ∙ sym (bit_at-zero i))

-- a mix is left by the mask of the bits in which it differs from the first
spelt : (x y z : ℕ) → bit_and (bit_xor z x) (bit_xor z y) ≡ 0 → flipped x y (bit_xor z x) ≡ z
spelt x y z none =
    same_from_bits _ z (λ i.
    bit_at-flipped x y (bit_xor z x) i
    ∙ ap (λ (b : ℕ). (bit_at x i + min b ((bit_at x i + bit_at y i) % 2)) % 2) (bit_at_xor z x i)
    ∙ one_spelt (bit_at x i) (bit_at y i) (bit_at z i) (bit_at-lt x i) (bit_at-lt y i) (bit_at-lt z i)
    (sym (bit_at-both x y z i) ∙ ap (λ (n : ℕ). bit_at n i) none ∙ bit_at-zero i))

-- a byte of a whole operation may stand
pub wanted_stands : (op : Operation) (i old : ℕ) → may_stand op i old (wanted op i old) ≡ true
wanted_stands (Program at bytes) i old =
    eq-eqb _ 0 (ap (λ (n : ℕ). bit_and (bit_xor (wanted (Program at bytes) i old) old) n) (xor_self (wanted (Program at bytes) i old)) ∙ and_zero_r _)
wanted_stands (Erase sector) i old = or_right (0xFF == old) (0xFF == 0xFF) refl

-- a byte that a mask leaves may stand
pub chosen_stands : (op : Operation) (i mask old : ℕ) → may_stand op i old (chosen op i mask old) ≡ true
chosen_stands (Program at bytes) i mask old = eq-eqb _ 0 (mixed old (wanted (Program at bytes) i old) mask)
chosen_stands (Erase sector) i mask old = erased (mask % 2 == 1)
  where
    erased : (b : Bool) → ((if b then 0xFF else old) == old) || ((if b then 0xFF else old) == 0xFF) ≡ true
    erased true = or_right (0xFF == old) true refl
    erased false = or_left (old == old) (old == 0xFF) (eq-eqb old old refl)

-- the mask byte that leaves a byte
abbrev pub mask_for : Operation → ℕ → ℕ → ℕ
mask_for (Program at bytes) old new = bit_xor new old
mask_for (Erase sector) old new = if new == old then 0 else 1

pub chosen_by_mask : (op : Operation) (i old new : ℕ) → may_stand op i old new ≡ true → chosen op i (mask_for op old new) old ≡ new
chosen_by_mask (Program at bytes) i old new stands = spelt old (wanted (Program at bytes) i old) new (eqb-true _ 0 stands)
chosen_by_mask (Erase sector) i old new stands = erased (cases_Bool (new == old))
  where
    erased : ((new == old) ≡ true) ⊎ ((new == old) ≡ false) → (if (if new == old then 0 else 1) % 2 == 1 then 0xFF else old) ≡ new
    erased (inl same) = ap (λ (b : Bool). if (if b then 0 else 1) % 2 == 1 then 0xFF else old) same ∙ sym (eqb-true new old same)
    erased (inr other) =
        ap (λ (b : Bool). if (if b then 0 else 1) % 2 == 1 then 0xFF else old) other
        ∙ elim (or_cases (new == old) (new == 0xFF) stands) [ inl same ↦ absurd (cc) | inr set ↦ sym (eqb-true new 0xFF set) ]

pub mask_for-lt : (op : Operation) (old new : ℕ) → old < 256 → new < 256 → mask_for op old new < 256
mask_for-lt (Program at bytes) old new a b = xor_of_8 new old b a
mask_for-lt (Erase sector) old new a b = small (new == old)
  where
    small : (c : Bool) → (if c then 0 else 1) < 256
    small true = omega arith
    small false = omega arith
