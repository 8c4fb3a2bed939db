-- The cases of what stands at the front of some bytes.
use Rattle.std.proofs.Common.{◌≡◌, ℕ, ◌+◌, ◌<◌, ◌≤◌, Bool, true, false, List, length, refl}
use Rattle.std.specs.Prelude.{◌==◌, nat_lt, nat_le, sum}
use Rattle.std.specs.Prelude.{if◌then◌else◌}
use Rattle.std.proofs.Common.{inl, inr}
use Rattle.std.proofs.lemmas.Bool.{cases_Bool, cases_lt, cases_eq, ltb-true, leb-true, eqb-true, lt-ltb, le-ltb, le-leb, eq-eqb, ne_eqb, and_parts, and_from}
use Rattle.wire_packets.specs.declared.decoding.Decoded.TheVariants.{Whole, Short, Damaged}
use Rattle.little_endian.specs.Numbers.{number}
use Rattle.wire_packets.specs.Decoding.{agrees, size, header_sum, is_sound, payload, packet, decoded, BeginsSound}

-- the five ways in which bytes can begin, each with its answer
pub data Beginning (bytes : List ℕ) : Type 0 where
  cut_header : length bytes < 32 → agrees bytes ≡ true → decoded bytes ≡ Short → Beginning bytes
  no_header : length bytes < 32 → agrees bytes ≡ false → decoded bytes ≡ Damaged → Beginning bytes
  unsound : 32 ≤ length bytes → is_sound bytes ≡ false → decoded bytes ≡ Damaged → Beginning bytes
  cut_payload : 32 ≤ length bytes → is_sound bytes ≡ true → length bytes < 32 + size bytes → decoded bytes ≡ Short → Beginning bytes
  broken : 32 ≤ length bytes → is_sound bytes ≡ true → 32 + size bytes ≤ length bytes → (sum (payload bytes) ≡ number 4 12 bytes → ⊥) → decoded bytes ≡ Damaged → Beginning bytes
  whole : 32 ≤ length bytes → is_sound bytes ≡ true → 32 + size bytes ≤ length bytes → sum (payload bytes) ≡ number 4 12 bytes → decoded bytes ≡ Whole (packet bytes) (32 + size bytes) → Beginning bytes

pub decoded-few : (bytes : List ℕ) (test : Bool) → length bytes < 32 → agrees bytes ≡ test → decoded bytes ≡ (if test then Short else Damaged)
unfolding decoded
decoded-few bytes test few is = rw (lt-ltb (length bytes) 32 few, is) refl

pub decoded-unsound : (bytes : List ℕ) → 32 ≤ length bytes → is_sound bytes ≡ false → decoded bytes ≡ Damaged
unfolding decoded
decoded-unsound bytes long is = rw (le-ltb (length bytes) 32 long, is) refl

pub decoded-cut : (bytes : List ℕ) → 32 ≤ length bytes → is_sound bytes ≡ true → length bytes < 32 + size bytes → decoded bytes ≡ Short
unfolding decoded
decoded-cut bytes long is cut = rw (le-ltb (length bytes) 32 long, is, lt-ltb (length bytes) (32 + size bytes) cut) refl

pub decoded-broken : (bytes : List ℕ) → 32 ≤ length bytes → is_sound bytes ≡ true → 32 + size bytes ≤ length bytes → (sum (payload bytes) ≡ number 4 12 bytes → ⊥) → decoded bytes ≡ Damaged
unfolding decoded
decoded-broken bytes long is there differs =
    rw (le-ltb (length bytes) 32 long, is, le-ltb (length bytes) (32 + size bytes) there, ne_eqb (sum (payload bytes)) (number 4 12 bytes) differs) refl

pub decoded-whole : (bytes : List ℕ) → 32 ≤ length bytes → is_sound bytes ≡ true → 32 + size bytes ≤ length bytes → sum (payload bytes) ≡ number 4 12 bytes → decoded bytes ≡ Whole (packet bytes) (32 + size bytes)
unfolding decoded
decoded-whole bytes long is there same =
    rw (le-ltb (length bytes) 32 long, is, le-ltb (length bytes) (32 + size bytes) there, eq-eqb (sum (payload bytes)) (number 4 12 bytes) same) refl

beginning_long : (bytes : List ℕ) → 32 ≤ length bytes → Beginning bytes
beginning_long bytes long =
    elim (cases_Bool (is_sound bytes)) [
      | inr not ↦ unsound long not (decoded-unsound bytes long not)
      | inl sound ↦ elim (cases_lt (length bytes) (32 + size bytes)) [
        | inl cut ↦ cut_payload long sound cut (decoded-cut bytes long sound cut)
        | inr there ↦ elim (cases_eq (sum (payload bytes)) (number 4 12 bytes)) [
          | inl same ↦ whole long sound there same (decoded-whole bytes long sound there same)
          | inr differs ↦ broken long sound there differs (decoded-broken bytes long sound there differs)
        ]
      ]
    ]

pub beginning : (bytes : List ℕ) → Beginning bytes
beginning bytes =
    elim (cases_lt (length bytes) 32) [
      | inr long ↦ beginning_long bytes long
      | inl few ↦ elim (cases_Bool (agrees bytes)) [
        | inl agree ↦ cut_header few agree (decoded-few bytes true few agree)
        | inr not ↦ no_header few not (decoded-few bytes false few not)
      ]
    ]

pub sound_parts : (bytes : List ℕ) → 32 ≤ length bytes → is_sound bytes ≡ true → BeginsSound bytes
unfolding is_sound
sound_parts bytes long is =
    let three = and_parts _ (nat_le (size bytes) 1024) is in
    let two = and_parts _ (nat_lt (number 4 24 bytes) 2) three.0 in
    let one = and_parts (agrees bytes) (number 4 8 bytes == header_sum bytes) two.0 in
    record {
      long = long;
      agree = one.0;
      check = eqb-true (number 4 8 bytes) (header_sum bytes) one.1;
      flags = ltb-true (number 4 24 bytes) 2 two.1;
      size = leb-true (size bytes) 1024 three.1;
    }

pub sound_from : (bytes : List ℕ) → BeginsSound bytes → is_sound bytes ≡ true
unfolding is_sound
sound_from bytes begins =
    and_from _ _ (and_from _ _ (and_from _ _ begins.agree (eq-eqb (number 4 8 bytes) (header_sum bytes) begins.check)) (lt-ltb (number 4 24 bytes) 2 begins.flags)) (le-leb (size bytes) 1024 begins.size)
