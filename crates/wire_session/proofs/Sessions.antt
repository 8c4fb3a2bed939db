-- Whole sessions.
use Rattle.std.proofs.Common.{◌≡◌, ℕ, zero, suc, ◌+◌, Bool, true, false, ◌&&◌, List, [], ◌∷◌, length, refl, sym, ap, ◌∙◌, inl, inr, arith}
use Rattle.std.specs.Prelude.{◌==◌, nat_lt, min, if◌then◌else◌, Option, Some, is_some}
use Rattle.std.specs.List.{range_with_len}
use Rattle.std.proofs.lemmas.Bool.{cases_lt, cases_Bool, lt-ltb, le-ltb, eqb-true, and_parts}
use Rattle.wire_packets.specs.declared.packet.Packet.{Packet}
use Rattle.wire_packets.specs.declared.packet.TheConstants.{LAST_SEQ, REQUEST}
use Rattle.wire_session.specs.declared.act.Act.TheVariants.{Do, Resend, Ignore}
use Rattle.wire_session.specs.Asking.{Asking, next_request, after_ask, has_turn, after_turns}
use Rattle.wire_session.specs.Answering.{Answering, act_on, is_do, after_take, after_keep, numbers_done}

-- ---- turns
counted : (t n : ℕ) → t ≡ min n 8 → (if nat_lt t 8 then t + 1 else t) ≡ min (suc n) 8
counted t n is =
    elim (cases_lt t 8) [
      | inl low ↦ let test : nat_lt t 8 ≡ true = lt-ltb t 8 low in rw test (omega arith)
      | inr high ↦ let test : nat_lt t 8 ≡ false = le-ltb t 8 high in rw test (omega arith)
    ]

waits : (a : Asking) (command : ℕ) (payload : List ℕ) (n : ℕ) → (after_turns n (after_ask a command payload)).waiting ≡ Some (next_request a command payload)
waits a command payload zero = refl
waits a command payload (suc n) = waits a command payload n

turns_taken : (a : Asking) (command : ℕ) (payload : List ℕ) (n : ℕ) → (after_turns n (after_ask a command payload)).turns ≡ min n 8
turns_taken a command payload zero = refl
turns_taken a command payload (suc n) =
    ap (λ (w : Option Packet). if is_some w && nat_lt (after_turns n (after_ask a command payload)).turns 8 then (after_turns n (after_ask a command payload)).turns + 1 else (after_turns n (after_ask a command payload)).turns) (waits a command payload n)
    ∙ counted (after_turns n (after_ask a command payload)).turns n (turns_taken a command payload n)

below_eight : (n : ℕ) → nat_lt (min n 8) 8 ≡ nat_lt n 8
below_eight n =
    elim (cases_lt n 8) [
      | inl low ↦ lt-ltb (min n 8) 8 (omega arith) ∙ sym (lt-ltb n 8 low)
      | inr high ↦ le-ltb (min n 8) 8 (omega arith) ∙ sym (le-ltb n 8 high)
    ]

pub turns_left : (a : Asking) (command : ℕ) (payload : List ℕ) (n : ℕ) → has_turn (after_turns n (after_ask a command payload)) ≡ nat_lt n 8
turns_left a command payload n =
    ap (λ (w : Option Packet). is_some w && nat_lt (after_turns n (after_ask a command payload)).turns 8) (waits a command payload n)
    ∙ ap (λ (t : ℕ). nat_lt t 8) (turns_taken a command payload n)
    ∙ below_eight n

-- ---- numbers
chosen_do : (b c d : Bool) → is_do (if b then (if c then Do else (if d then Resend else Ignore)) else Ignore) ≡ true → c ≡ true
chosen_do true true d is = refl
chosen_do true false true is = absurd (cc)
chosen_do true false false is = absurd (cc)
chosen_do false c d is = absurd (cc)

-- what is done is the next
done_next : (a : Answering) (p : Packet) → is_do (act_on a p) ≡ true → p.seq ≡ a.last + 1
done_next a p is =
    let both = chosen_do (p.flags == REQUEST) ((p.seq == a.last + 1) && nat_lt a.last LAST_SEQ) ((p.seq == a.last) && nat_lt 0 a.last) is in
    eqb-true p.seq (a.last + 1) (and_parts (p.seq == a.last + 1) (nat_lt a.last LAST_SEQ) both).0

pub numbers_follow : (reply : Packet → Packet) (a : Answering) (ps : List Packet) → numbers_done reply a ps ≡ range_with_len (a.last + 1) (length (numbers_done reply a ps))
numbers_follow reply a [] = refl
numbers_follow reply a (p ∷ ps) =
    elim (cases_Bool (is_do (act_on a p))) [
      | inl does ↦
          let rest = numbers_done reply (after_keep (after_take a p) (reply p)) ps in
          let all : numbers_done reply a (p ∷ ps) ≡ p.seq ∷ rest =
          ap (λ (b : Bool). if b then p.seq ∷ rest else numbers_done reply (after_take a p) ps) does in
          all
          ∙ ap (λ (n : ℕ). n ∷ rest) (done_next a p does)
          ∙ ap (λ (ns : List ℕ). (a.last + 1) ∷ ns) (numbers_follow reply (after_keep (after_take a p) (reply p)) ps)
          ∙ sym (ap (λ (ns : List ℕ). range_with_len (a.last + 1) (length ns)) all)
      | inr not ↦
          let all : numbers_done reply a (p ∷ ps) ≡ numbers_done reply (after_take a p) ps =
          ap (λ (b : Bool). if b then p.seq ∷ numbers_done reply (after_keep (after_take a p) (reply p)) ps else numbers_done reply (after_take a p) ps) not in
          all ∙ numbers_follow reply (after_take a p) ps ∙ sym (ap (λ (ns : List ℕ). range_with_len (a.last + 1) (length ns)) all)
    ]
