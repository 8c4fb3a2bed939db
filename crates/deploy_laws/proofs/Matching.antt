-- The board's replies to the requests of a deployment are those that the tool waits for.
use Rattle.std.proofs.Common.{◌≡◌, ◌⊎◌, ℕ, suc, ◌+◌, ◌-◌, ◌<◌, ◌≤◌, Bool, true, false, not, ◌&&◌, ◌||◌, List, [], ◌∷◌, ◌++◌, length, Option, Some, None, refl, sym, ap, subst, ◌∙◌, inl, inr, arith}
use Rattle.std.specs.Prelude.{slice_index, slice_get, ◌==◌, nat_lt, nat_le, if◌then◌else◌}
use Rattle.std.proofs.lemmas.Bool.{and_from, and_parts, or_cases, eq-eqb, eqb-true, true≢false}
use Rattle.byteorder.specs.Endian.{little_bytes}
use Rattle.byteorder.specs.Numbers.{little_number-reads_back}
use Rattle.flash_trait.specs.Flash.{Operation, AreBytes}
use Rattle.wire_packets.specs.declared.packet.Packet.{Packet}
use Rattle.wire_packets.specs.declared.packet.TheConstants.{REPLY}
use Rattle.wire_packets.specs.declared.command.TheConstants.{OPEN, PROGRAM, ERASE, BANKS, DONE, FLASH_FAILED, NO_MEMORY}
use Rattle.little_endian.specs.Numbers.{number}
use Rattle.wire_session.specs.Replies.{matches, answers, fits, is_banks, banks_fit, flash_shape}
use Rattle.deploy_model.specs.Banks.{Format, Found, Located, choose, is_set, is_late, number_in, bank_of}
use Rattle.deploy_model.specs.Deployment.{Banks, banks, banks_bytes, banks_told, marks_of, is_spent, plan_for, operations, Deploying, Asks, HasFailed, IsSpent, next_of, asks_operation, asks_nth, asks_planned, asks_told, TOLD_SIZE}
use Rattle.deploy_model.specs.Board.{operation_asked, program_asked, erase_asked, reply_to}
use Rattle.deploy_laws.proofs.Found.{selected, choose_is}
use Rattle.deploy_laws.proofs.Told.{banks_small}

-- a reply to a request matches it where its payload answers it
pub matches_by : (last : Option ℕ) (p : Packet) (payload : List ℕ) → answers last p payload ≡ true → matches last p (reply_to p payload) ≡ true
unfolding matches
matches_by last p payload does_answer =
    and_from ((REPLY == REPLY) && (p.command == p.command)) ((p.seq == p.seq) && answers last p payload)
    (eq-eqb p.command p.command refl)
    (and_from (p.seq == p.seq) (answers last p payload) (eq-eqb p.seq p.seq refl) does_answer)

-- a request for an operation is a Program or an Erase
command_asked : (p : Packet) (op : Operation) → operation_asked p ≡ Some op → (p.command ≡ PROGRAM) ⊎ (p.command ≡ ERASE)
unfolding operation_asked
command_asked p op is = by (p.command == PROGRAM) (p.command == ERASE) refl refl is
  where
    by : (a b : Bool) → (p.command == PROGRAM) ≡ a → (p.command == ERASE) ≡ b → (if a then program_asked p.payload.items else (if b then erase_asked p.payload.items else None)) ≡ Some op → (p.command ≡ PROGRAM) ⊎ (p.command ≡ ERASE)
    by true b e g h = inl (eqb-true p.command PROGRAM e)
    by false true e g h = inr (eqb-true p.command ERASE g)
    by false false e g h = absurd (cc)

done_fits : (last : Option ℕ) (p : Packet) → (p.command ≡ PROGRAM) ⊎ (p.command ≡ ERASE) → fits last p.command p.payload.items [] ≡ true
unfolding fits
done_fits last p (inl is) = subst (λ (n : ℕ). fits last n p.payload.items [] ≡ true) (sym is) refl
done_fits last p (inr is) = subst (λ (n : ℕ). fits last n p.payload.items [] ≡ true) (sym is) refl

done_answers : (last : Option ℕ) (p : Packet) → fits last p.command p.payload.items [] ≡ true → answers last p (DONE ∷ []) ≡ true
unfolding answers
done_answers last p is = is

failed_answers : (last : Option ℕ) (p : Packet) → answers last p (FLASH_FAILED ∷ []) ≡ true
unfolding answers
failed_answers last p = refl

pub operation_matches : (last : Option ℕ) (p : Packet) (op : Operation) → operation_asked p ≡ Some op → (matches last p (reply_to p (DONE ∷ [])) ≡ true) × (matches last p (reply_to p (FLASH_FAILED ∷ [])) ≡ true)
operation_matches last p op is =
    (matches_by last p (DONE ∷ []) (done_answers last p (done_fits last p (command_asked p op is))), matches_by last p (FLASH_FAILED ∷ []) (failed_answers last p))

-- ---- Banks
fit_selected : (late first second old : Bool) (o a b : Found) (n m : ℕ) → banks_fit (selected late first second old o a b n m).kind (selected late first second old o a b n m).bank (selected late first second old o a b n m).number ≡ true
fit_selected true first second old o a b n m = refl
fit_selected false true second old o a b n m = refl
fit_selected false false true old o a b n m = refl
fit_selected false false false true o a b n m = refl
fit_selected false false false false o a b n m = refl

fit_chosen : (o a b : Found) (n m : ℕ) → banks_fit (choose o a b n m).kind (choose o a b n m).bank (choose o a b n m).number ≡ true
fit_chosen o a b n m =
    let first = is_set a && (not (is_set b) || nat_le m n) in
    let e = choose_is o a b n m (is_late o) first (is_set b) (is_set o) refl refl refl refl in
    subst (λ (l : Located). banks_fit l.kind l.bank l.number ≡ true) (sym e) (fit_selected (is_late o) first (is_set b) (is_set o) o a b n m)

body_bank : (b : Banks) → b.bank < 4294967296 → number 4 1 (banks_bytes b) ≡ b.bank
unfolding number
body_bank b small = little_number-reads_back 4 b.bank (little_bytes 4 b.number ++ marks_of b ∷ []) small

body_number : (b : Banks) → b.number < 4294967296 → number 4 5 (banks_bytes b) ≡ b.number
unfolding number
body_number b small = little_number-reads_back 4 b.number (marks_of b ∷ []) small

marks_small : (a b : Bool) → nat_lt ((if a then 1 else 0) + (if b then 2 else 0)) 4 ≡ true
marks_small true true = refl
marks_small true false = refl
marks_small false true = refl
marks_small false false = refl

banks_are : (b : Banks) → b.bank < 4294967296 → b.number < 4294967296 → banks_fit b.kind b.bank b.number ≡ true → is_banks (banks_bytes b) ≡ true
unfolding is_banks
banks_are b one two fit =
    and_from ((length (banks_bytes b) == 10) && banks_fit b.kind (number 4 1 (banks_bytes b)) (number 4 5 (banks_bytes b))) (nat_lt (marks_of b) 4)
    (ap (λ (n : ℕ). banks_fit b.kind n (number 4 5 (banks_bytes b))) (body_bank b one) ∙ ap (λ (n : ℕ). banks_fit b.kind b.bank n) (body_number b two) ∙ fit)
    (marks_small b.first b.second)

banks_fits : (last : Option ℕ) (p : Packet) (body : List ℕ) → p.command ≡ BANKS → is_banks body ≡ true → fits last p.command p.payload.items body ≡ true
unfolding fits
banks_fits last p body is good = subst (λ (n : ℕ). fits last n p.payload.items body ≡ true) (sym is) good

banks_answers : (last : Option ℕ) (p : Packet) (body : List ℕ) → fits last p.command p.payload.items body ≡ true → answers last p (DONE ∷ body) ≡ true
unfolding answers
banks_answers last p body is = is

pub banks_match : (last : Option ℕ) (f : Format) (c : List ℕ) (p : Packet) → AreBytes c → p.command ≡ BANKS → matches last p (reply_to p (DONE ∷ banks_bytes (banks f c))) ≡ true
banks_match last f c p bytes is =
    let small = banks_small f c bytes in
    matches_by last p (DONE ∷ banks_bytes (banks f c)) (banks_answers last p (banks_bytes (banks f c)) (banks_fits last p (banks_bytes (banks f c)) is
    (banks_are (banks f c) (let h = small.bank in omega arith) small.number (fit_chosen _ _ _ (number_in (bank_of 0 c)) (number_in (bank_of 1 c))))))

open_fits : (last : Option ℕ) (n : ℕ) (payload : List ℕ) → n ≡ OPEN → fits last n payload flash_shape ≡ true
unfolding fits
open_fits last n payload e = subst (λ (k : ℕ). fits last k payload flash_shape ≡ true) (sym e) refl

open_answers : (last : Option ℕ) (p : Packet) → p.command ≡ OPEN → answers last p (DONE ∷ flash_shape) ≡ true
unfolding answers
open_answers last p is = open_fits last p.command p.payload.items is

pub open_match : (last : Option ℕ) (p : Packet) → p.command ≡ OPEN → matches last p (reply_to p (DONE ∷ flash_shape)) ≡ true
open_match last p is = matches_by last p (DONE ∷ flash_shape) (open_answers last p is)

-- ---- what a matching reply has
pub matches_answers : (last : Option ℕ) (p r : Packet) → matches last p r ≡ true → answers last p r.payload.items ≡ true
unfolding matches
matches_answers last p r is =
    let outer = and_parts ((r.flags == REPLY) && (r.command == p.command)) ((r.reply_seq == p.seq) && answers last p r.payload.items) is in
    (and_parts (r.reply_seq == p.seq) (answers last p r.payload.items) outer.1).1

banks_long : (body : List ℕ) → is_banks body ≡ true → length body ≡ 10
unfolding is_banks
banks_long body is =
    let outer = and_parts ((length body == 10) && banks_fit (slice_index body 0) (number 4 1 body) (number 4 5 body)) (nat_lt (slice_index body 9) 4) is in
    eqb-true (length body) 10 (and_parts (length body == 10) (banks_fit (slice_index body 0) (number 4 1 body) (number 4 5 body)) outer.0).0

fits_banks : (last : Option ℕ) (n : ℕ) (payload body : List ℕ) → n ≡ BANKS → fits last n payload body ≡ true → is_banks body ≡ true
unfolding fits
fits_banks last n payload body e is = subst (λ (k : ℕ). fits last k payload body ≡ true) e is

answers_long : (last : Option ℕ) (p : Packet) (payload : List ℕ) → answers last p payload ≡ true → 1 ≤ length payload
unfolding answers
answers_long last p [] is = absurd (true≢false (sym is))
answers_long last p (status ∷ body) is = omega arith

answers_banks : (last : Option ℕ) (p : Packet) (payload : List ℕ) → p.command ≡ BANKS → answers last p payload ≡ true → (slice_index payload 0 ≡ NO_MEMORY → ⊥) → (slice_index payload 0 ≡ FLASH_FAILED) ⊎ (length payload ≡ 11)
unfolding answers
answers_banks last p [] command is no_want = absurd (true≢false (sym is))
answers_banks last p (status ∷ body) command is no_want = by (status == DONE) is
  where
    by : (b : Bool) → (if b then fits last p.command p.payload.items body else ((status == FLASH_FAILED) || (status == NO_MEMORY)) && (length body == 0)) ≡ true → (status ≡ FLASH_FAILED) ⊎ (suc (length body) ≡ 11)
    by true e = let long = banks_long body (fits_banks last p.command p.payload.items body command e) in inr (omega arith)
    by false e =
        elim (or_cases (status == FLASH_FAILED) (status == NO_MEMORY) (and_parts ((status == FLASH_FAILED) || (status == NO_MEMORY)) (length body == 0) e).0) [
          | inl failed ↦ inl (eqb-true status FLASH_FAILED failed)
          | inr want ↦ absurd (no_want (eqb-true status NO_MEMORY want))
        ]

-- a deployment that is told as failed had a reply that tells of a failure of the flash
operation_never : (d : Deploying) (o : Option Operation) → (asks_operation d o).0 ≡ HasFailed → ⊥
operation_never d None is = absurd (cc)
operation_never d (Some op) is = absurd (cc)

pub failed_by_flash : (last : Option ℕ) (d : Deploying) (p r : Packet) → matches last p r ≡ true → (d.asked ≡ 2 → p.command ≡ BANKS) → (slice_index r.payload.items 0 ≡ NO_MEMORY → ⊥)
    → (next_of d (Some r.payload.items)).0 ≡ HasFailed → slice_index r.payload.items 0 ≡ FLASH_FAILED
unfolding next_of
failed_by_flash last d p r is command no_want failed = by_status (slice_index payload 0 == FLASH_FAILED) refl failed
  where
    payload : List ℕ
    payload = r.payload.items

    planned : (b : Bool) → (if b then (IsSpent, d) else asks_nth (record { set = d.set; asked = d.asked; plan = plan_for (banks_told payload) }) 0).0 ≡ HasFailed → slice_index payload 0 ≡ FLASH_FAILED
    planned true e = absurd (cc)
    planned false e = absurd (operation_never (record { set = d.set; asked = d.asked; plan = plan_for (banks_told payload) }) (slice_get (operations (plan_for (banks_told payload)) d.set) 0) e)

    told : (b : Bool) → (length payload == TOLD_SIZE) ≡ b → d.asked ≡ 2 → (if b then asks_planned d (banks_told payload) else (HasFailed, d)).0 ≡ HasFailed → slice_index payload 0 ≡ FLASH_FAILED
    told true long two e = planned (is_spent (banks_told payload)) e
    told false long two e =
        elim (answers_banks last p payload (command two) (matches_answers last p r is) no_want) [
          | inl failure ↦ failure
          | inr eleven ↦ absurd (true≢false (sym (eq-eqb (length payload) TOLD_SIZE eleven) ∙ long))
        ]

    by_two : (b : Bool) → (d.asked == 2) ≡ b → (if b then asks_told d payload else asks_nth d (d.asked - 2)).0 ≡ HasFailed → slice_index payload 0 ≡ FLASH_FAILED
    by_two true two e = told (length payload == TOLD_SIZE) refl (eqb-true d.asked 2 two) e
    by_two false two e = absurd (operation_never d (slice_get (operations d.plan d.set) (d.asked - 2)) e)

    by_one : (b : Bool) → (if b then (Asks BANKS [], record { set = d.set; asked = 2; plan = d.plan }) else (if d.asked == 2 then asks_told d payload else asks_nth d (d.asked - 2))).0 ≡ HasFailed → slice_index payload 0 ≡ FLASH_FAILED
    by_one true e = absurd (cc)
    by_one false e = by_two (d.asked == 2) refl e

    by_status : (b : Bool) → (slice_index payload 0 == FLASH_FAILED) ≡ b
        → (if b then (HasFailed, d) else (if d.asked == 1 then (Asks BANKS [], record { set = d.set; asked = 2; plan = d.plan }) else (if d.asked == 2 then asks_told d payload else asks_nth d (d.asked - 2)))).0 ≡ HasFailed
        → slice_index payload 0 ≡ FLASH_FAILED
    by_status true status e = eqb-true (slice_index payload 0) FLASH_FAILED status
    by_status false status e = by_one (d.asked == 1) e
