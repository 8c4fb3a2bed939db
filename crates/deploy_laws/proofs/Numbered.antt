-- The board does the numbers of a session in order, each once.
use Rattle.std.proofs.Common.{◌≡◌, ℕ, zero, suc, ◌+◌, Bool, true, false, List, [], ◌∷◌, ◌++◌, length, Option, Some, None, refl, sym, ap, ◌∙◌, arith}
use Rattle.std.specs.Prelude.{slice_get, if◌then◌else◌}
use Rattle.std.specs.List.{range_with_len}
use Rattle.std.proofs.lemmas.Bool.{true≢false}
use Rattle.std.proofs.lemmas.List.{length-append}
use Rattle.flash_trait.specs.Flash.{Operation}
use Rattle.wire_packets.specs.declared.packet.Packet.{Packet}
use Rattle.wire_session.specs.declared.act.Act.{Act}
use Rattle.wire_session.specs.declared.act.Act.TheVariants.{Do, Resend, Ignore}
use Rattle.wire_session.specs.Answering.{act_on, is_do}
use Rattle.deploy_model.specs.Board.{Parts, Outcome, operation_asked}
use Rattle.deploy_model.specs.World.{World, Event, Send, ToBoard, Stop, ToTool, Begin, sent, on_act, to_board, cut_off, stops, to_tool, takes_reply, happens, run}
use Rattle.deploy_model.specs.Numbers.{number_done, number_stopped, if_operation, with_number, numbers_after, numbers_of}
use Rattle.deploy_laws.proofs.Events.{do_next}

range_push : (a n : ℕ) → range_with_len a n ++ (a + n) ∷ [] ≡ range_with_len a (n + 1)
range_push a zero = let e : a + 0 ≡ a = omega arith in ap (λ (k : ℕ). k ∷ []) e
range_push a (suc n) =
    let e : a + suc n ≡ a + 1 + n = omega arith in
    let f : suc n + 1 ≡ suc (n + 1) = omega arith in
    ap (λ (k : ℕ). a ∷ (range_with_len (a + 1) n ++ k ∷ [])) e ∙ ap (λ (xs : List ℕ). a ∷ xs) (range_push (a + 1) n) ∙ ap (λ (k : ℕ). range_with_len a k) (sym f)

-- the numbers so far are 1, 2, 3 and so on, up to the board's last while the power is on
pub record InOrder (w : World) (numbers : List ℕ) : Type 0 where
  pub order : numbers ≡ range_with_len 1 (length numbers)
  pub last : w.on ≡ true → length numbers ≡ w.board.last

one_more : (numbers : List ℕ) (n : ℕ) → numbers ≡ range_with_len 1 (length numbers) → n ≡ length numbers + 1 → numbers ++ n ∷ [] ≡ range_with_len 1 (length (numbers ++ n ∷ []))
one_more numbers n order next =
    let size : length (numbers ++ n ∷ []) ≡ length numbers + 1 = length-append numbers (n ∷ []) in
    let e : n ≡ 1 + length numbers = omega arith in
    ap (λ (k : ℕ). numbers ++ k ∷ []) e ∙ ap (λ (xs : List ℕ). xs ++ (1 + length numbers) ∷ []) order ∙ range_push 1 (length numbers) ∙ ap (λ (k : ℕ). range_with_len 1 k) (sym size)

kept : (w v : World) (numbers : List ℕ) → InOrder w numbers → v.on ≡ w.on → v.board.last ≡ w.board.last → InOrder v numbers
kept w v numbers so on last = record { order = so.order; last = λ is. so.last (sym on ∙ is) ∙ sym last }

by_board : (parts : Parts) (w : World) (outcome : Outcome) (o : Option Packet) (numbers : List ℕ) → w.on ≡ true → InOrder w numbers → InOrder (to_board parts w outcome o) (with_number numbers (number_done w o))
by_board parts w outcome None numbers on so = so
by_board parts w outcome (Some p) numbers on so = by_act (act_on w.board p) refl
  where
    by_act : (a : Act) → act_on w.board p ≡ a → InOrder (on_act parts w p outcome a) (with_number numbers (if is_do a then Some p.seq else None))
    by_act Do is =
        let count = so.last on in
        let next : p.seq ≡ length numbers + 1 = let h = do_next w.board p is in omega arith in
        let size : length (numbers ++ p.seq ∷ []) ≡ length numbers + 1 = length-append numbers (p.seq ∷ []) in
        record { order = one_more numbers p.seq so.order next; last = λ still. omega arith }
    by_act Resend is = kept w (on_act parts w p outcome Resend) numbers so refl refl
    by_act Ignore is = so

by_stop : (w : World) (left : List ℕ) (o : Option Packet) (numbers : List ℕ) → w.on ≡ true → InOrder w numbers → InOrder (stops w left o) (with_number numbers (number_stopped w o))
by_stop w left None numbers on so = so
by_stop w left (Some p) numbers on so = by_act (act_on w.board p) refl (operation_asked p)
  where
    by_act : (a : Act) → act_on w.board p ≡ a → (asked : Option Operation)
        → InOrder (if is_do a then cut_off w left asked else w) (with_number numbers (if_operation asked (if is_do a then Some p.seq else None)))
    by_act Do is None = so
    by_act Do is (Some op) =
        let count = so.last on in
        let next : p.seq ≡ length numbers + 1 = let h = do_next w.board p is in omega arith in
        record { order = one_more numbers p.seq so.order next; last = λ off. absurd (true≢false (sym off)) }
    by_act Resend is None = so
    by_act Resend is (Some op) = so
    by_act Ignore is None = so
    by_act Ignore is (Some op) = so

by_tool : (w : World) (o : Option Packet) (numbers : List ℕ) → InOrder w numbers → InOrder (to_tool w o) numbers
by_tool w None numbers so = so
by_tool w (Some r) numbers so = either (Rattle.wire_session.specs.Asking.is_awaited w.tool.asking r)
  where
    either : (b : Bool) → InOrder (if b then takes_reply w r else w) numbers
    either true = kept w (takes_reply w r) numbers so refl refl
    either false = so

step : (parts : Parts) (w : World) (e : Event) (numbers : List ℕ) → InOrder w numbers → InOrder (happens parts w e) (numbers_after w e numbers)
unfolding happens
step parts w Send numbers so = by_power w.on
  where
    after_send : World
    after_send = record { content = w.content; on = w.on; board = w.board; text = w.text; tool = w.tool; requests = sent w.requests w.tool.asking.waiting; replies = w.replies; start = w.start }

    by_power : (b : Bool) → InOrder (if b then after_send else w) numbers
    by_power true = kept w after_send numbers so refl refl
    by_power false = so
step parts w (ToBoard i outcome) numbers so = by_power w.on refl
  where
    by_power : (b : Bool) → w.on ≡ b → InOrder (if b then to_board parts w outcome (slice_get w.requests i) else w) (with_number numbers (if b then number_done w (slice_get w.requests i) else None))
    by_power true is = by_board parts w outcome (slice_get w.requests i) numbers is so
    by_power false is = so
step parts w (Stop i left) numbers so = by_power w.on refl
  where
    by_power : (b : Bool) → w.on ≡ b → InOrder (if b then stops w left (slice_get w.requests i) else w) (with_number numbers (if b then number_stopped w (slice_get w.requests i) else None))
    by_power true is = by_stop w left (slice_get w.requests i) numbers is so
    by_power false is = so
step parts w (ToTool j) numbers so = by_power w.on
  where
    by_power : (b : Bool) → InOrder (if b then to_tool w (slice_get w.replies j) else w) numbers
    by_power true = by_tool w (slice_get w.replies j) numbers so
    by_power false = so
step parts w (Begin g) numbers so = record { order = refl; last = λ on. refl }

pub in_order : (parts : Parts) (es : List Event) (w : World) (numbers : List ℕ) → InOrder w numbers → InOrder (run parts es w) (numbers_of parts es w numbers)
in_order parts [] w numbers so = so
in_order parts (e ∷ es) w numbers so = in_order parts es (happens parts w e) (numbers_after w e numbers) (step parts w e numbers so)
