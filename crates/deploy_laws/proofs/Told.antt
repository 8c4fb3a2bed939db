-- What the reply to Banks tells.
use Rattle.std.proofs.Common.{◌≡◌, ℕ, ◌+◌, ◌*◌, ◌/◌, ◌%◌, ◌<◌, ◌≤◌, Bool, true, false, not, ◌&&◌, ◌||◌, List, [], ◌∷◌, ◌++◌, drop, refl, sym, ap, subst, ◌∙◌, arith}
use Rattle.std.specs.Prelude.{slice_index, if◌then◌else◌, ◌==◌, nat_le}
use Rattle.byteorder.specs.Endian.{little_bytes}
use Rattle.byteorder.specs.Numbers.{little_number-reads_back}
use Rattle.flash_trait.specs.Flash.{AreBytes}
use Rattle.wire_packets.specs.declared.command.TheConstants.{DONE}
use Rattle.little_endian.specs.Numbers.{number}
use Rattle.std.proofs.lemmas.List.{get_or-drop}
use Rattle.deploy_model.specs.Banks.{Format, Found, Located, choose, bank_of, base, BANK_SIZE, number_in, is_set, is_late, locate}
use Rattle.deploy_model.specs.Deployment.{Banks, banks, banks_bytes, banks_told, marks_of}
use Rattle.deploy_laws.proofs.Found.{selected, choose_is}
use Rattle.deploy_laws.proofs.Kept.{get-bank}

first_of : (a b : Bool) → (((if a then 1 else 0) + (if b then 2 else 0)) % 2 == 1) ≡ a
first_of true true = refl
first_of true false = refl
first_of false true = refl
first_of false false = refl

second_of : (a b : Bool) → (((if a then 1 else 0) + (if b then 2 else 0)) / 2 == 1) ≡ b
second_of true true = refl
second_of true false = refl
second_of false true = refl
second_of false false = refl

bank_back : (b : Banks) → b.bank < 4294967296 → number 4 2 (DONE ∷ banks_bytes b) ≡ b.bank
unfolding number
bank_back b small = little_number-reads_back 4 b.bank (little_bytes 4 b.number ++ marks_of b ∷ []) small

number_back : (b : Banks) → b.number < 4294967296 → number 4 6 (DONE ∷ banks_bytes b) ≡ b.number
unfolding number
number_back b small = little_number-reads_back 4 b.number (marks_of b ∷ []) small

abbrev make : ℕ → ℕ → ℕ → Bool → Bool → Banks
make kind bank number first second = record { kind = kind; bank = bank; number = number; first = first; second = second }

pub told_back : (b : Banks) → b.bank < 4294967296 → b.number < 4294967296 → banks_told (DONE ∷ banks_bytes b) ≡ b
told_back b one two =
    ap (λ (n : ℕ). make b.kind n (number 4 6 (DONE ∷ banks_bytes b)) (marks_of b % 2 == 1) (marks_of b / 2 == 1)) (bank_back b one)
    ∙ ap (λ (n : ℕ). make b.kind b.bank n (marks_of b % 2 == 1) (marks_of b / 2 == 1)) (number_back b two)
    ∙ ap (λ (x : Bool). make b.kind b.bank b.number x (marks_of b / 2 == 1)) (first_of b.first b.second)
    ∙ ap (λ (x : Bool). make b.kind b.bank b.number b.first x) (second_of b.first b.second)

-- ---- the numbers are small
pub record IsSmall (l : Located) : Type 0 where
  pub bank : l.bank ≤ 1
  pub number : l.number < 4294967296

small_selected : (late first second old : Bool) (o a b : Found) (n m : ℕ) → n < 4294967296 → m < 4294967296 → IsSmall (selected late first second old o a b n m)
small_selected true first second old o a b n m s t = record { bank = omega arith; number = omega arith }
small_selected false true second old o a b n m s t = record { bank = omega arith; number = s }
small_selected false false true old o a b n m s t = record { bank = omega arith; number = t }
small_selected false false false true o a b n m s t = record { bank = omega arith; number = omega arith }
small_selected false false false false o a b n m s t = record { bank = omega arith; number = omega arith }

small_chosen : (o a b : Found) (n m : ℕ) → n < 4294967296 → m < 4294967296 → IsSmall (choose o a b n m)
small_chosen o a b n m s t =
    rw (choose_is o a b n m (is_late o) (is_set a && (not (is_set b) || nat_le m n)) (is_set b) (is_set o) refl refl refl refl)
    (small_selected (is_late o) (is_set a && (not (is_set b) || nat_le m n)) (is_set b) (is_set o) o a b n m s t)

four_small : (a b c d : ℕ) → a < 256 → b < 256 → c < 256 → d < 256 → a + 256 * (b + 256 * (c + 256 * (d + 256 * 0))) < 4294967296
four_small a b c d s t u v = omega arith

number_small : (bank : ℕ) (c : List ℕ) → AreBytes c → number_in (bank_of bank c) < 4294967296
number_small bank c bytes =
    four_small (slice_index (drop 8 (bank_of bank c)) 0) (slice_index (drop 8 (bank_of bank c)) 1) (slice_index (drop 8 (bank_of bank c)) 2) (slice_index (drop 8 (bank_of bank c)) 3)
    (byte 0 (omega arith)) (byte 1 (omega arith)) (byte 2 (omega arith)) (byte 3 (omega arith))
  where
    byte : (i : ℕ) → i < 4 → slice_index (drop 8 (bank_of bank c)) i < 256
    byte i low =
        let inside : 8 + i < BANK_SIZE = omega arith in
        let e = get_or-drop 8 (bank_of bank c) i 0 in
        let g = get-bank bank c (8 + i) inside in
        let h = bytes (base bank + (8 + i)) in
        subst (λ (n : ℕ). n < 256) (sym (e ∙ g)) h

pub banks_small : (f : Format) (c : List ℕ) → AreBytes c → IsSmall (locate f c)
banks_small f c bytes = small_chosen _ _ _ (number_in (bank_of 0 c)) (number_in (bank_of 1 c)) (number_small 0 c bytes) (number_small 1 c bytes)

pub banks_back : (f : Format) (c : List ℕ) → AreBytes c → banks_told (DONE ∷ banks_bytes (banks f c)) ≡ banks f c
banks_back f c bytes =
    let small = small_chosen _ _ _ (number_in (bank_of 0 c)) (number_in (bank_of 1 c)) (number_small 0 c bytes) (number_small 1 c bytes) in
    told_back (banks f c) (let h = small.bank in omega arith) small.number
