-- The turns of a script suffice.
use Rattle.std.proofs.Common.{◌≡◌, ◌⊎◌, ℕ, zero, suc, ◌+◌, ◌-◌, ◌*◌, ◌≤◌, ◌<◌, Bool, true, false, ◌||◌, List, [], ◌∷◌, length, Option, Some, None, refl, sym, ap, subst, ◌∙◌, inl, inr, arith}
use Rattle.std.specs.Prelude.{slice_get, nat_le, ◌==◌, if◌then◌else◌, is_none}
use Rattle.std.proofs.lemmas.Bool.{or_parts, eq-eqb, true≢false}
use Rattle.flash_trait.specs.Flash.{Operation, AreBytes, cut}
use Rattle.flash_trait.specs.FlashCalls.{counted}
use Rattle.flash_trait.specs.declared.flash.Stop as armed
use Rattle.wire_packets.specs.declared.packet.Packet.{Packet}
use Rattle.wire_session.specs.declared.act.Act.{Act}
use Rattle.wire_session.specs.declared.act.Act.TheVariants.{Do, Resend, Ignore}
use Rattle.wire_session.specs.Asking.{is_awaited}
use Rattle.wire_session.specs.Answering.{act_on, is_do}
use Rattle.wire_script.specs.Script.{turn_of, script_after}
use Rattle.wire_script.specs.declared.net.Item.{Item}
use Rattle.wire_script.specs.declared.delivery.Planned.{Planned}
use Rattle.wire_script.specs.declared.delivery.Planned.TheVariants.{Request, Reply, NewestRequest, NewestReply}
use Rattle.deploy_model.specs.Banks.{IsFormat}
use Rattle.deploy_model.specs.Board.{Parts, Works, operation_asked}
use Rattle.deploy_model.specs.Tool.{Stage, Deploys, Goal, OnlyRuns, Tool, opens}
use Rattle.deploy_model.specs.World.{World, Send, ToBoard, Stop, ToTool, Begin, sent, on_act, to_board, to_tool, takes_reply, begins, happens, FitsWork, asleep}
use Rattle.deploy_model.specs.Numbers.{ENOUGH_TURNS}
use Rattle.deploy_model.specs.Play.{Playing, goes_on, due_operation, only_runs, stops_here, by_stop, delivers, answers_reach, does_planned, does_turn, taken_after, play, playing}
use Rattle.deploy_laws.proofs.Session.{Inv, Before, AtOpen, AtBanks, AtOperation, Later}
use Rattle.deploy_laws.proofs.Events.{is_open, step, asleep_inv, act_do, none_some_op, banks_none}
use Rattle.deploy_laws.proofs.PlayLaws.{may_cut, due_asked}
use Rattle.deploy_laws.proofs.Counted.{IsCounted, Advances, taken, left, few}
use Rattle.deploy_laws.proofs.Few.{board_tool, opens_counted, counted_by}

-- ---- what holds of the world of a play
pub record Plays (parts : Parts) (w : World) : Type 0 where
  pub on : w.on ≡ true
  pub inv : Inv parts w
  pub counted : IsCounted w.tool

-- what a part of a turn may have made of a tool
pub record Moved (before after : Tool) (stopped : Bool) : Type 0 where
  pub down : left after ≤ left before
  pub way : (after ≡ before) ⊎ ((after.asking.waiting ≡ None) ⊎ (left after < left before))
  pub stop : stopped ≡ true → left after < left before

stays : (t : Tool) → Moved t t false
stays t = record { down = omega arith; way = inl refl; stop = λ is. absurd (true≢false (sym is)) }

stayed : (t u : Tool) → u ≡ t → Moved t u false
stayed t u same = subst (λ (x : Tool). Moved t x false) (sym same) (stays t)

-- one part after another, that isn't a stop
goes : (a b c : Tool) → Moved a b false → Moved b c false → Moved a c false
goes a b c first second =
    let low = first.down in
    let lower = second.down in
    record {
      down = omega arith;
      way = elim second.way [
        | inl same ↦
            elim first.way [
              | inl was ↦ inl (same ∙ was)
              | inr moved ↦ inr (subst (λ (x : Tool). (x.asking.waiting ≡ None) ⊎ (left x < left a)) (sym same) moved)
            ]
        | inr other ↦ elim other [ inl rests ↦ inr (inl rests) | inr less ↦ inr (inr (omega arith)) ]
      ];
      stop = λ is. absurd (true≢false (sym is));
    }

-- and a stop
stops_then : (a b c : Tool) → Moved a b false → left c < left b → Moved a c true
stops_then a b c first less = let low = first.down in record { down = omega arith; way = inr (inr (omega arith)); stop = λ is. omega arith }

-- ---- the events of a play
send_world : World → World
send_world w = record { content = w.content; on = w.on; board = w.board; text = w.text; tool = w.tool; requests = sent w.requests w.tool.asking.waiting; replies = w.replies; start = w.start }

power_on : {X : Type 0} (b : Bool) (x y : X) → b ≡ true → (if b then x else y) ≡ x
power_on b x y is = ap (λ (c : Bool). if c then x else y) is

sends : (parts : Parts) (w : World) → Plays parts w → IsFormat parts.format → Plays parts (happens parts w Send) × ((happens parts w Send).tool ≡ w.tool)
unfolding happens send_world
sends parts w so format =
    let e : happens parts w Send ≡ send_world w = power_on w.on (send_world w) w so.on in
    let same : (happens parts w Send).tool ≡ w.tool = ap (λ (v : World). v.tool) e in
    (record { on = ap (λ (v : World). v.on) e ∙ so.on; inv = step parts w Send format so.inv tt; counted = counted_by w.tool (happens parts w Send).tool same so.counted }, same)

act_on_power : (parts : Parts) (w : World) (p : Packet) (a : Act) → (on_act parts w p Works a).on ≡ w.on
act_on_power parts w p Do = refl
act_on_power parts w p Resend = refl
act_on_power parts w p Ignore = refl

board_power : (parts : Parts) (w : World) (o : Option Packet) → (to_board parts w Works o).on ≡ w.on
board_power parts w None = refl
board_power parts w (Some p) = act_on_power parts w p (act_on w.board p)

reaches : (parts : Parts) (w : World) (i : ℕ) → Plays parts w → IsFormat parts.format → Plays parts (happens parts w (ToBoard i Works)) × ((happens parts w (ToBoard i Works)).tool ≡ w.tool)
unfolding happens
reaches parts w i so format =
    let o = slice_get w.requests i in
    let e : happens parts w (ToBoard i Works) ≡ to_board parts w Works o = power_on w.on (to_board parts w Works o) w so.on in
    let same : (happens parts w (ToBoard i Works)).tool ≡ w.tool = ap (λ (v : World). v.tool) e ∙ board_tool parts w Works o in (
      record {
        on = ap (λ (v : World). v.on) e ∙ board_power parts w o ∙ so.on;
        inv = step parts w (ToBoard i Works) format so.inv tt;
        counted = counted_by w.tool (happens parts w (ToBoard i Works)).tool same so.counted;
      },
      same,
    )

-- the tool gets a reply
tool_power : (w : World) (o : Option Packet) → (to_tool w o).on ≡ w.on
tool_power w None = refl
tool_power w (Some r) = either (is_awaited w.tool.asking r)
  where
    either : (b : Bool) → (if b then takes_reply w r else w).on ≡ w.on
    either true = refl
    either false = refl

tool_moves : (w : World) (o : Option Packet) → IsCounted w.tool → IsCounted (to_tool w o).tool × Moved w.tool (to_tool w o).tool false
tool_moves w None so = (so, stays w.tool)
tool_moves w (Some r) so = either (is_awaited w.tool.asking r) refl
  where
    either : (b : Bool) → is_awaited w.tool.asking r ≡ b → IsCounted (if b then takes_reply w r else w).tool × Moved w.tool (if b then takes_reply w r else w).tool false
    either true is = let a = taken w.tool r so is in (a.counted, record { down = a.down; way = inr a.on; stop = λ never. absurd (true≢false (sym never)) })
    either false is = (so, stays w.tool)

answers_come : (parts : Parts) (w : World) (j : ℕ) → Plays parts w → IsFormat parts.format → Plays parts (happens parts w (ToTool j)) × Moved w.tool (happens parts w (ToTool j)).tool false
unfolding happens
answers_come parts w j so format =
    let o = slice_get w.replies j in
    let e : happens parts w (ToTool j) ≡ to_tool w o = power_on w.on (to_tool w o) w so.on in
    let moves = tool_moves w o so.counted in (
      record {
        on = ap (λ (v : World). v.on) e ∙ tool_power w o ∙ so.on;
        inv = step parts w (ToTool j) format so.inv tt;
        counted = subst (λ (v : World). IsCounted v.tool) (sym e) moves.0;
      },
      subst (λ (v : World). Moved w.tool v.tool false) (sym e) moves.1,
    )

-- the power stops in an operation: the session deployed
deploying : (parts : Parts) (start : List ℕ) (t : Tool) (p : Packet) (content : List ℕ) (op : Operation) → operation_asked p ≡ Some op → Before parts start t p content → 4500 ≤ left t
deploying parts start t p content op is (AtOpen set d work deployable stage same_set count untold none same) = absurd (none_some_op op (sym none ∙ is))
deploying parts start t p content op is (AtBanks set d work deployable stage same_set count untold command payload same) = absurd (none_some_op op (sym (banks_none p command) ∙ is))
deploying parts start t p content op is (AtOperation set d i o work can stage same_set count plan untold nth asked same) =
    subst (λ (s : Stage). 4500 ≤ Rattle.deploy_laws.proofs.Counted.left_at t.asking.asked s) (sym stage) (above (142 - t.asking.asked))
  where
    above : (n : ℕ) → 4500 ≤ 4500 + n
    above n = omega arith
deploying parts start t p content op is (Later later none done next steady) = absurd (none_some_op op (sym none ∙ is))

due_do : (w : World) (p : Packet) (op : Operation) → due_operation w p ≡ Some op → act_on w.board p ≡ Do
due_do w p op is = act_do (act_on w.board p) (by (is_do (act_on w.board p)) refl is)
  where
    by : (b : Bool) → is_do (act_on w.board p) ≡ b → (if b then operation_asked p else None) ≡ Some op → is_do (act_on w.board p) ≡ true
    by true same e = same
    by false same e = absurd (none_some_op op e)

-- after a stop a session begins that only runs
abbrev after_stop : Parts → World → ℕ → List ℕ → World
after_stop parts w i content = happens parts (happens parts w (Stop i content)) (Begin (only_runs w.tool.goal))

begun_tool : (parts : Parts) (v : World) (g : Goal) → ((happens parts v (Begin g)).tool ≡ opens g g.work) × ((happens parts v (Begin g)).on ≡ true)
unfolding happens
begun_tool parts v g = (refl, refl)

stop_moves : (parts : Parts) (w : World) (i : ℕ) (p : Packet) (op : Operation) (mask : List ℕ) → Plays parts w → IsFormat parts.format → slice_get w.requests i ≡ Some p → due_operation w p ≡ Some op
    → Plays parts (after_stop parts w i (cut op mask w.content)) × (left (after_stop parts w i (cut op mask w.content)).tool < left w.tool)
stop_moves parts w i p op mask so format got due =
    let asked = due_asked w p op due in
    let g = only_runs w.tool.goal in
    let content = cut op mask w.content in
    let v = happens parts w (Stop i content) in
    let stopped = step parts w (Stop i content) format so.inv (may_cut w i p op mask got asked) in
    let open_one = is_open parts w i p (so.inv.awake so.on) (due_do w p op due) got in
    let many = deploying parts w.start w.tool p w.content op asked open_one.3 in
    let tool = (begun_tool parts v g).0 in
    let few_left : left (opens g OnlyRuns) ≡ 4479 = refl in (
      record {
        on = (begun_tool parts v g).1;
        inv = step parts v (Begin g) format stopped tt;
        counted = counted_by (opens g OnlyRuns) (after_stop parts w i content).tool tool (opens_counted parts g OnlyRuns tt);
      },
      subst (λ (t : Tool). left t < left w.tool) (sym tool) (omega arith),
    )

-- ---- a turn
-- a play whose turn began with a tool
pub record InTurn (parts : Parts) (start : Tool) (p : Playing) : Type 0 where
  pub plays : Plays parts p.world
  pub moved : Moved start p.world.tool p.stopped

quiet : (parts : Parts) (start : Tool) (w v : World) (stopped : Bool) → stopped ≡ false → Moved start w.tool stopped → Moved w.tool v.tool false → Moved start v.tool stopped
quiet parts start w v stopped still first second =
    subst (λ (b : Bool). Moved start v.tool b) (sym still) (goes start w.tool v.tool (subst (λ (b : Bool). Moved start w.tool b) still first) second)

on_stop : (parts : Parts) (start : Tool) (p : Playing) (i : ℕ) (packet : Packet) (o : Option Operation) (s : Option armed.Stop) → IsFormat parts.format → p.stopped ≡ false → InTurn parts start p
    → slice_get p.world.requests i ≡ Some packet → due_operation p.world packet ≡ o → InTurn parts start (by_stop parts p i o s)
on_stop parts start p i packet o s format still so got due = by o s due
  where
    after : World
    after = happens parts p.world (ToBoard i Works)

    reached : Plays parts after × (after.tool ≡ p.world.tool)
    reached = reaches parts p.world i so.plays format

    moved : Moved start after.tool p.stopped
    moved = quiet parts start p.world after p.stopped still so.moved (stayed p.world.tool after.tool reached.1)

    stop_here : (op : Operation) (stop : armed.Stop) → due_operation p.world packet ≡ Some op → InTurn parts start (stops_here parts p i op stop)
    stop_here op stop is =
        let stopped = stop_moves parts p.world i packet op stop.mask so.plays format got is in
        record { plays = stopped.0; moved = stops_then start p.world.tool _ (subst (λ (b : Bool). Moved start p.world.tool b) still so.moved) stopped.1 }

    by : (x : Option Operation) (y : Option armed.Stop) → due_operation p.world packet ≡ x → InTurn parts start (by_stop parts p i x y)
    by None y is = record { plays = reached.0; moved = moved }
    by (Some op) None is = record { plays = reached.0; moved = moved }
    by (Some op) (Some stop) is = either (nat_le stop.operation 1)
      where
        either : (b : Bool) → InTurn parts start (if b then stops_here parts p i op stop else record (goes_on parts p (ToBoard i Works)) { stop = counted (Some stop) })
        either true = stop_here op stop is
        either false = record { plays = reached.0; moved = moved }

on_delivery : (parts : Parts) (start : Tool) (p : Playing) (i : ℕ) (o : Option Packet) → IsFormat parts.format → p.stopped ≡ false → InTurn parts start p → slice_get p.world.requests i ≡ o → InTurn parts start (delivers parts p i o)
on_delivery parts start p i None format still so got = so
on_delivery parts start p i (Some packet) format still so got = on_stop parts start p i packet (due_operation p.world packet) p.stop format still so got refl

on_answer : (parts : Parts) (start : Tool) (p : Playing) (j : ℕ) (o : Option Packet) → IsFormat parts.format → p.stopped ≡ false → InTurn parts start p → InTurn parts start (answers_reach parts p j o)
on_answer parts start p j None format still so = so
on_answer parts start p j (Some r) format still so =
    let came = answers_come parts p.world j so.plays format in
    record { plays = came.0; moved = quiet parts start p.world (happens parts p.world (ToTool j)) p.stopped still so.moved came.1 }

on_planned : (parts : Parts) (start : Tool) (p : Playing) (planned : Planned) → IsFormat parts.format → p.stopped ≡ false → InTurn parts start p → InTurn parts start (does_planned parts p planned)
on_planned parts start p (Request i) format still so = on_delivery parts start p i (slice_get p.world.requests i) format still so refl
on_planned parts start p (Reply j) format still so = on_answer parts start p j (slice_get p.world.replies j) format still so
on_planned parts start p NewestRequest format still so = on_delivery parts start p (length p.world.requests - 1) (slice_get p.world.requests (length p.world.requests - 1)) format still so refl
on_planned parts start p NewestReply format still so = on_answer parts start p (length p.world.replies - 1) (slice_get p.world.replies (length p.world.replies - 1)) format still so

on_turn : (parts : Parts) (start : Tool) (p : Playing) (turn : List Planned) → IsFormat parts.format → InTurn parts start p → InTurn parts start (does_turn parts p turn)
on_turn parts start p [] format so = so
on_turn parts start p (planned ∷ rest) format so =
    by p.stopped refl (λ is. on_turn parts start (does_planned parts p planned) rest format (on_planned parts start p planned format is so))
  where
    by : (b : Bool) → p.stopped ≡ b → (p.stopped ≡ false → InTurn parts start (does_turn parts (does_planned parts p planned) rest)) → InTurn parts start (if b then p else does_turn parts (does_planned parts p planned) rest)
    by true is more = so
    by false is more = more is

-- ---- a play
abbrev turn_played : Parts → List Item → Playing → Playing
turn_played parts script p = does_turn parts (record (goes_on parts p Send) { stopped = false }) (turn_of script)

turn_moves : (parts : Parts) (script : List Item) (p : Playing) → IsFormat parts.format → Plays parts p.world → InTurn parts p.world.tool (turn_played parts script p)
turn_moves parts script p format so =
    let went = sends parts p.world so format in
    on_turn parts p.world.tool (record (goes_on parts p Send) { stopped = false }) (turn_of script) format
    (record { plays = went.0; moved = stayed p.world.tool (happens parts p.world Send).tool went.1 })

-- nothing is asked any more
at_rest : (parts : Parts) (n taken : ℕ) (script : List Item) (p : Playing) → (is_none p.world.tool.asking.waiting || (taken == 8)) ≡ true → play parts n taken script p ≡ p
at_rest parts zero taken script p is = refl
at_rest parts (suc n) taken script p is =
    ap (λ (b : Bool). if b then p else play parts n (taken_after taken p.world.tool.asking.asked (turn_played parts script p)) (script_after script) (turn_played parts script p)) is

goes_turn : (parts : Parts) (n taken : ℕ) (script : List Item) (p : Playing) → (is_none p.world.tool.asking.waiting || (taken == 8)) ≡ false
    → play parts (suc n) taken script p ≡ play parts n (taken_after taken p.world.tool.asking.asked (turn_played parts script p)) (script_after script) (turn_played parts script p)
goes_turn parts n taken script p is =
    ap (λ (b : Bool). if b then p else play parts n (taken_after taken p.world.tool.asking.asked (turn_played parts script p)) (script_after script) (turn_played parts script p)) is

-- a turn that leaves the session at rest, or less to come
data Nearer (before taken : ℕ) (q : Playing) (asked : ℕ) : Type 0 where
  Rested : q.world.tool.asking.waiting ≡ None → Nearer before taken q asked
  Lower : 8 * left q.world.tool + 9 + taken ≤ 8 * before + 8 + taken_after taken asked q → taken_after taken asked q ≤ 8 → Nearer before taken q asked

nearer : (parts : Parts) (t : Tool) (taken : ℕ) (q : Playing) → taken < 8 → InTurn parts t q → Nearer (left t) taken q t.asking.asked
nearer parts t taken q few so = by_stop_flag q.stopped refl
  where
    low : left q.world.tool ≤ left t
    low = so.moved.down

    restart : (n : ℕ) → taken_after taken t.asking.asked q ≡ n → n ≡ 0 → left q.world.tool < left t → Nearer (left t) taken q t.asking.asked
    restart n is none less = Lower (omega arith) (omega arith)

    by_asked : q.stopped ≡ false → (b : Bool) → (q.world.tool.asking.asked == t.asking.asked) ≡ b → Nearer (left t) taken q t.asking.asked
    by_asked still true is =
        let e : taken_after taken t.asking.asked q ≡ taken + 1 = ap (λ (b : Bool). if b then 0 else (if q.world.tool.asking.asked == t.asking.asked then taken + 1 else 0)) still ∙ ap (λ (b : Bool). if b then taken + 1 else 0) is in
        let down = low in
        Lower (omega arith) (omega arith)
    by_asked still false is =
        let e : taken_after taken t.asking.asked q ≡ 0 = ap (λ (b : Bool). if b then 0 else (if q.world.tool.asking.asked == t.asking.asked then taken + 1 else 0)) still ∙ ap (λ (b : Bool). if b then taken + 1 else 0) is in
        elim so.moved.way [
          | inl same ↦ absurd (true≢false (sym (eq-eqb q.world.tool.asking.asked t.asking.asked (ap (λ (x : Tool). x.asking.asked) same)) ∙ is))
          | inr other ↦ elim other [ inl rests ↦ Rested rests | inr less ↦ restart 0 e refl less ]
        ]

    by_stop_flag : (b : Bool) → q.stopped ≡ b → Nearer (left t) taken q t.asking.asked
    by_stop_flag true is =
        restart 0 (ap (λ (b : Bool). if b then 0 else (if q.world.tool.asking.asked == t.asking.asked then taken + 1 else 0)) is) refl (so.moved.stop is)
    by_stop_flag false is = by_asked is (q.world.tool.asking.asked == t.asking.asked) refl

not_eight : (taken : ℕ) → taken ≤ 8 → (taken == 8) ≡ false → taken < 8
not_eight taken low is = by_ne (λ (e : taken ≡ 8). true≢false (sym (eq-eqb taken 8 e) ∙ is))
  where
    by_ne : (taken ≡ 8 → ⊥) → taken < 8
    by_ne ne = omega arith

enough : (parts : Parts) (n m taken : ℕ) (script : List Item) (p : Playing) → IsFormat parts.format → Plays parts p.world → taken ≤ 8 → 8 * left p.world.tool + 8 ≤ n + taken → 8 * left p.world.tool + 8 ≤ m + taken
    → play parts n taken script p ≡ play parts m taken script p
enough parts zero m taken script p format so low one two = by (is_none p.world.tool.asking.waiting || (taken == 8)) refl
  where
    by : (b : Bool) → (is_none p.world.tool.asking.waiting || (taken == 8)) ≡ b → play parts 0 taken script p ≡ play parts m taken script p
    by true is = sym (at_rest parts m taken script p is)
    by false is = let few = not_eight taken low (or_parts (is_none p.world.tool.asking.waiting) (taken == 8) is).1 in absurd (omega arith)
enough parts (suc n) zero taken script p format so low one two = by (is_none p.world.tool.asking.waiting || (taken == 8)) refl
  where
    by : (b : Bool) → (is_none p.world.tool.asking.waiting || (taken == 8)) ≡ b → play parts (suc n) taken script p ≡ play parts 0 taken script p
    by true is = at_rest parts (suc n) taken script p is
    by false is = let few = not_eight taken low (or_parts (is_none p.world.tool.asking.waiting) (taken == 8) is).1 in absurd (omega arith)
enough parts (suc n) (suc m) taken script p format so low one two =
    by (is_none p.world.tool.asking.waiting || (taken == 8)) refl (λ high lower.
    enough parts n m (taken_after taken p.world.tool.asking.asked (turn_played parts script p)) (script_after script) (turn_played parts script p) format (turn_moves parts script p format so).plays lower (less n one high) (less m two high))
  where
    q : Playing
    q = turn_played parts script p

    again : ℕ
    again = taken_after taken p.world.tool.asking.asked q

    less : (k : ℕ) → 8 * left p.world.tool + 8 ≤ suc k + taken → 8 * left q.world.tool + 9 + taken ≤ 8 * left p.world.tool + 8 + again → 8 * left q.world.tool + 8 ≤ k + again
    less k bound high = omega arith

    by_nearer : Nearer (left p.world.tool) taken q p.world.tool.asking.asked
        → (8 * left q.world.tool + 9 + taken ≤ 8 * left p.world.tool + 8 + again → again ≤ 8 → play parts n again (script_after script) q ≡ play parts m again (script_after script) q)
        → play parts n again (script_after script) q ≡ play parts m again (script_after script) q
    by_nearer (Rested rests) more =
        let is : (is_none q.world.tool.asking.waiting || (again == 8)) ≡ true = ap (λ (o : Option Packet). is_none o || (again == 8)) rests in
        at_rest parts n again (script_after script) q is ∙ sym (at_rest parts m again (script_after script) q is)
    by_nearer (Lower high lower) more = more high lower

    by : (b : Bool) → (is_none p.world.tool.asking.waiting || (taken == 8)) ≡ b
        → (8 * left q.world.tool + 9 + taken ≤ 8 * left p.world.tool + 8 + again → again ≤ 8 → play parts n again (script_after script) q ≡ play parts m again (script_after script) q)
        → play parts (suc n) taken script p ≡ play parts (suc m) taken script p
    by true is more = at_rest parts (suc n) taken script p is ∙ sym (at_rest parts (suc m) taken script p is)
    by false is more =
        let few = not_eight taken low (or_parts (is_none p.world.tool.asking.waiting) (taken == 8) is).1 in
        goes_turn parts n taken script p is ∙ by_nearer (nearer parts p.world.tool taken q few (turn_moves parts script p format so)) more ∙ sym (goes_turn parts m taken script p is)

-- ---- from the start
most_left : (t : Tool) → IsCounted t → left t ≤ 4642
most_left t so = by t.stage so
  where
    by : (s : Stage) → Rattle.deploy_laws.proofs.Counted.CountAt t s → Rattle.deploy_laws.proofs.Counted.left_at t.asking.asked s ≤ 4642
    by (Deploys d) c = omega arith
    by Rattle.deploy_model.specs.Tool.Opens c = omega arith
    by Rattle.deploy_model.specs.Tool.Runs c = omega arith
    by (Rattle.deploy_model.specs.Tool.Fetches end) c = omega arith
    by (Rattle.deploy_model.specs.Tool.Closes end) c = omega arith
    by (Rattle.deploy_model.specs.Tool.IsOver finish end) c = omega arith

begun_on : (parts : Parts) (w : World) (g : Goal) → happens parts w (Begin g) ≡ begins w g
unfolding happens
begun_on parts w g = refl

pub turns_enough : (parts : Parts) (g : Goal) (content : List ℕ) (script : List Item) (stop : Option armed.Stop) (turns more : ℕ) → IsFormat parts.format → length content ≡ 262144 → AreBytes content → FitsWork parts g.work
    → ENOUGH_TURNS ≤ turns → ENOUGH_TURNS ≤ more → play parts turns 0 script (playing (begins (asleep content) g) stop) ≡ play parts more 0 script (playing (begins (asleep content) g) stop)
turns_enough parts g content script stop turns more format size bytes fits one two =
    let w = begins (asleep content) g in
    let counted_so = opens_counted parts g g.work fits in
    let most = most_left w.tool counted_so in
    enough parts turns more 0 script (playing w stop) format
    (record {
      on = refl;
      inv = subst (Inv parts) (begun_on parts (asleep content) g) (step parts (asleep content) (Begin g) format (asleep_inv parts content size bytes) fits);
      counted = counted_so;
    }) (omega arith) (omega arith) (omega arith)
