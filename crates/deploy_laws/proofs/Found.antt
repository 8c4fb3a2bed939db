-- What is found at each moment of a deployment.
use Rattle.std.proofs.Common.{◌≡◌, ◌⊎◌, ℕ, suc, ◌+◌, ◌<◌, ◌≤◌, Bool, true, false, not, ◌&&◌, ◌||◌, List, [], ◌∷◌, ◌++◌, length, drop, refl, sym, ap, ◌∙◌, inl, inr, arith}
use Rattle.std.specs.Prelude.{slice_index, if◌then◌else◌, ◌==◌, nat_le}
use Rattle.std.proofs.lemmas.Bool.{cases_lt, and_from, and_left, and_right, or_left, or_right, le-leb, lt-leb, true≢false, false_from_ne_true}
use Rattle.std.proofs.lemmas.List.{ext_get_or}
use Rattle.byteorder.specs.Numbers.{little_number-reads_back}
use Rattle.deploy_model.specs.Banks.{Format, IsFormat, base, BANK_SIZE, BODY, ROOM, LAST_END, LAST_NUMBER, image_marker, bank_marker, holds, bank_of, number_in, number_bytes, body_bytes, bank_bytes, set_in, Found, NoSet, BadSet, WholeSet, is_set, is_late, old_found, bank_found, first_bad, Located, located, choose, locate, found}
use Rattle.deploy_laws.proofs.Markers.{holds_byte}
use Rattle.deploy_laws.proofs.Kept.{Around, get-bank, length-bank}

-- ---- the choice
abbrev pub selected : Bool → Bool → Bool → Bool → Found → Found → Found → ℕ → ℕ → Located
selected late first second old o a b n m =
    if late then located o 2 0 0
    else (if first then located a 3 0 n
    else (if second then located b 3 1 m
    else (if old then located o 1 0 0 else located (first_bad o a b) 0 0 0)))

pub choose_is : (o a b : Found) (n m : ℕ) (late first second old : Bool) → is_late o ≡ late → (is_set a && (not (is_set b) || nat_le m n)) ≡ first → is_set b ≡ second → is_set o ≡ old
    → choose o a b n m ≡ selected late first second old o a b n m
unfolding choose
choose_is o a b n m late first second old e1 e2 e3 e4 =
    ap (λ (x : Bool). selected x (is_set a && (not (is_set b) || nat_le m n)) (is_set b) (is_set o) o a b n m) e1
    ∙ ap (λ (x : Bool). selected late x (is_set b) (is_set o) o a b n m) e2
    ∙ ap (λ (x : Bool). selected late first x (is_set o) o a b n m) e3
    ∙ ap (λ (x : Bool). selected late first second x o a b n m) e4

pub early : (o : Found) → is_set o ≡ false → is_late o ≡ false
early NoSet none = refl
early (BadSet at) none = refl
early (WholeSet images) none = absurd (true≢false none)

-- bank 0 is whole, and bank 1 isn't or has no greater number
abbrev pub Leads : Found → ℕ → ℕ → Type 0
Leads other n m = (is_set other ≡ false) ⊎ (m ≤ n)

leads : (a b : Found) (n m : ℕ) → is_set a ≡ true → Leads b n m → (is_set a && (not (is_set b) || nat_le m n)) ≡ true
leads a b n m set (inl none) = and_from (is_set a) (not (is_set b) || nat_le m n) set (or_left (not (is_set b)) (nat_le m n) (ap not none))
leads a b n m set (inr low) = and_from (is_set a) (not (is_set b) || nat_le m n) set (or_right (not (is_set b)) (nat_le m n) (le-leb m n low))

-- bank 0 isn't whole, or bank 1 is and has a greater number
abbrev pub Trails : Found → Found → ℕ → ℕ → Type 0
Trails a b n m = (is_set a ≡ false) ⊎ ((is_set b ≡ true) × (n < m))

or_neither : (b c : Bool) → b ≡ false → c ≡ false → (b || c) ≡ false
or_neither true c e f = absurd (true≢false e)
or_neither false c e f = f

trails : (a b : Found) (n m : ℕ) → Trails a b n m → (is_set a && (not (is_set b) || nat_le m n)) ≡ false
trails a b n m (inl none) = and_left (is_set a) (not (is_set b) || nat_le m n) none
trails a b n m (inr greater) =
    and_right (is_set a) (not (is_set b) || nat_le m n) (or_neither (not (is_set b)) (nat_le m n) (ap not greater.0) (lt-leb m n greater.1))

pub choose_late : (o a b : Found) (n m : ℕ) → is_late o ≡ true → choose o a b n m ≡ located o 2 0 0
choose_late o a b n m late = choose_is o a b n m true (is_set a && (not (is_set b) || nat_le m n)) (is_set b) (is_set o) late refl refl refl

pub choose_first : (o a b : Found) (n m : ℕ) → is_late o ≡ false → is_set a ≡ true → Leads b n m → choose o a b n m ≡ located a 3 0 n
choose_first o a b n m late set lead = choose_is o a b n m false true (is_set b) (is_set o) late (leads a b n m set lead) refl refl

pub choose_second : (o a b : Found) (n m : ℕ) → is_late o ≡ false → is_set b ≡ true → Trails a b n m → choose o a b n m ≡ located b 3 1 m
choose_second o a b n m late set trail = choose_is o a b n m false false true (is_set o) late (trails a b n m trail) set refl

pub choose_old : (o a b : Found) (n m : ℕ) → is_late o ≡ false → is_set a ≡ false → is_set b ≡ false → is_set o ≡ true → choose o a b n m ≡ located o 1 0 0
choose_old o a b n m late first second set = choose_is o a b n m false false false true late (trails a b n m (inl first)) second set

pub choose_none : (o a b : Found) (n m : ℕ) → is_set o ≡ false → is_set a ≡ false → is_set b ≡ false → choose o a b n m ≡ located (first_bad o a b) 0 0 0
choose_none o a b n m none first second = choose_is o a b n m false false false false (early o none) (trails a b n m (inl first)) second none

pub bad_is_none : (o a b : Found) → is_set o ≡ false → is_set a ≡ false → is_set b ≡ false → is_set (first_bad o a b) ≡ false
bad_is_none NoSet NoSet b none first second = second
bad_is_none NoSet (BadSet at) b none first second = refl
bad_is_none NoSet (WholeSet images) b none first second = first
bad_is_none (BadSet at) a b none first second = refl
bad_is_none (WholeSet images) a b none first second = none

-- ---- what a bank gives
pub bank_marked : (xs : List ℕ) (target : ℕ) (c : List ℕ) → length xs ≤ BANK_SIZE → holds xs 0 (bank_of target c) ≡ holds xs (base target) c
bank_marked xs target c short = walked xs 0 (base target) c (omega arith) (omega arith)
  where
    walked : (ys : List ℕ) (i at : ℕ) (d : List ℕ) → i + length ys ≤ BANK_SIZE → at ≡ base target + i → holds ys i (bank_of target d) ≡ holds ys at d
    walked [] i at d low e = refl
    walked (y ∷ ys) i at d low e =
        let inside : i < BANK_SIZE = omega arith in
        let next : suc i + length ys ≤ BANK_SIZE = omega arith in
        let more : suc at ≡ base target + suc i = omega arith in
        let g : slice_index (bank_of target d) i ≡ slice_index d at = get-bank target d i inside ∙ ap (λ (n : ℕ). slice_index d n) (sym e) in
        ap (λ (n : ℕ). (n == y) && holds ys (suc i) (bank_of target d)) g ∙ ap (λ (b : Bool). (slice_index d at == y) && b) (walked ys (suc i) (suc at) d next more)

pub bank_clear : (f : Format) (target : ℕ) (c : List ℕ) → holds bank_marker (base target) c ≡ false → bank_found f target (bank_of target c) ≡ NoSet
unfolding bank_found
bank_clear f target c none =
    ap (λ (b : Bool). if b then Rattle.deploy_model.specs.Banks.judge f (base target) (Rattle.deploy_model.specs.Banks.walk f 32 (base target + BODY) (drop BODY (bank_of target c))) else NoSet)
    (bank_marked bank_marker target c (omega arith) ∙ none)

bank_set_marked : (b : Bool) (x : Found) → is_set (if b then x else NoSet) ≡ true → b ≡ true
bank_set_marked true x is = refl
bank_set_marked false x is = absurd (cc)

pub bank_whole_marked : (f : Format) (target : ℕ) (c : List ℕ) → is_set (bank_found f target (bank_of target c)) ≡ true → holds bank_marker (base target) c ≡ true
unfolding bank_found
bank_whole_marked f target c is =
    sym (bank_marked bank_marker target c (omega arith))
    ∙ bank_set_marked (holds bank_marker 0 (bank_of target c)) (Rattle.deploy_model.specs.Banks.judge f (base target) (Rattle.deploy_model.specs.Banks.walk f 32 (base target + BODY) (drop BODY (bank_of target c)))) is

pub bank_placed : (f : Format) (target number : ℕ) (set : List ℕ) → bank_found f target (bank_bytes number set) ≡ set_in f target set
unfolding bank_found
bank_placed f target number set = refl

pub number_placed : (number : ℕ) (set : List ℕ) → number < 4294967296 → number_in (bank_bytes number set) ≡ number
number_placed number set small = little_number-reads_back 4 number ((0 ∷ 0 ∷ 0 ∷ 0 ∷ []) ++ body_bytes set) small

below_by : (i n m : ℕ) → i < n → n ≡ m → i < m
below_by i n m low e = omega arith

pub bank_other : (target other : ℕ) (was c : List ℕ) → other ≤ 1 → (target + other ≡ 1) → length was ≡ 262144 → Around target was c → bank_of other c ≡ bank_of other was
bank_other target other was c small both size around =
    ext_get_or 0 (bank_of other c) (bank_of other was) (length-bank other c small around.size ∙ sym (length-bank other was small size)) (λ i low.
    one i (below_by i (length (bank_of other c)) BANK_SIZE low (length-bank other c small around.size)))
  where
    one : (i : ℕ) → i < BANK_SIZE → slice_index (bank_of other c) i ≡ slice_index (bank_of other was) i
    one i below =
        get-bank other c i below
        ∙ around.same (base other + i) (elim (cases_lt target 1) [ inl front ↦ inr (omega arith) | inr back ↦ inl (omega arith) ])
        ∙ sym (get-bank other was i below)

-- one place can't hold both markers
pub not_both : (at : ℕ) (c : List ℕ) → holds bank_marker at c ≡ true → holds image_marker at c ≡ false
not_both at c bank =
    false_from_ne_true (holds image_marker at c) (λ image.
    let e : 0x31 ≡ 0x32 = sym (holds_byte image_marker at c image 6 (omega arith)) ∙ holds_byte bank_marker at c bank 6 (omega arith) in omega arith)

pub front_same : (xs : List ℕ) (c d : List ℕ) → length xs ≤ BANK_SIZE → bank_of 0 d ≡ bank_of 0 c → holds xs 0 d ≡ holds xs 0 c
front_same xs c d short same = sym (bank_marked xs 0 d short) ∙ ap (λ (bytes : List ℕ). holds xs 0 bytes) same ∙ bank_marked xs 0 c short
