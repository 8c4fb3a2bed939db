-- What a script and a stop stand for can happen.
use Rattle.std.proofs.Common.{◌≡◌, ℕ, zero, suc, ◌-◌, Bool, true, false, ◌||◌, List, [], ◌∷◌, ◌++◌, length, Option, Some, None, refl, sym, ap, subst, ◌∙◌}
use Rattle.std.specs.Prelude.{slice_get, nat_le, ◌==◌, if◌then◌else◌, is_none}
use Rattle.flash_trait.specs.Flash.{Operation, IsStopped, cut}
use Rattle.flash_trait.specs.FlashCalls.{counted}
use Rattle.flash_trait.specs.declared.flash.Stop as armed
use Rattle.flash_trait.proofs.FlashContents.{cut_stopped}
use Rattle.wire_packets.specs.declared.packet.Packet.{Packet}
use Rattle.wire_session.specs.Answering.{act_on, is_do}
use Rattle.wire_script.specs.Script.{turn_of, script_after}
use Rattle.wire_script.specs.declared.net.Item.{Item}
use Rattle.wire_script.specs.declared.delivery.Planned.{Planned}
use Rattle.wire_script.specs.declared.delivery.Planned.TheVariants.{Request, Reply, NewestRequest, NewestReply}
use Rattle.deploy_model.specs.Board.{Parts, Works, operation_asked}
use Rattle.deploy_model.specs.World.{World, Event, Send, ToBoard, Stop, ToTool, Begin, happens, MayLeave, IsPossible, run, ArePossible, asleep}
use Rattle.deploy_model.specs.Tool.{Goal}
use Rattle.deploy_model.specs.Play.{Playing, goes_on, due_operation, only_runs, stops_here, by_stop, delivers, answers_reach, does_planned, does_turn, taken_after, play, playing}

-- ---- lists of events one after the other
pub run_append : (parts : Parts) (es more : List Event) (w : World) → run parts (es ++ more) w ≡ run parts more (run parts es w)
run_append parts [] more w = refl
run_append parts (x ∷ xs) more w = run_append parts xs more (happens parts w x)

pub possible_append : (parts : Parts) (es more : List Event) (w : World) → ArePossible parts w es → ArePossible parts (run parts es w) more → ArePossible parts w (es ++ more)
possible_append parts [] more w these those = those
possible_append parts (x ∷ xs) more w these those = (these.0, possible_append parts xs more (happens parts w x) these.1 those)

-- a session begins with the content alone
pub begins_alike : (parts : Parts) (w : World) (g : Goal) → happens parts w (Begin g) ≡ happens parts (asleep w.content) (Begin g)
unfolding happens
begins_alike parts w g = refl

run_push : (parts : Parts) (es : List Event) (e : Event) (w : World) → run parts (es ++ e ∷ []) w ≡ happens parts (run parts es w) e
run_push parts es e w = run_append parts es (e ∷ []) w

possible_push : (parts : Parts) (es : List Event) (e : Event) (w : World) → ArePossible parts w es → IsPossible parts (run parts es w) e → ArePossible parts w (es ++ e ∷ [])
possible_push parts es e w these that = possible_append parts es (e ∷ []) w these (that, tt)

-- the world is where the events led to, and each of them could happen
pub record Follows (parts : Parts) (start : World) (p : Playing) : Type 0 where
  pub led : run parts p.events start ≡ p.world
  pub possible : ArePossible parts start p.events

pub follows_on : (parts : Parts) (start : World) (p : Playing) (e : Event) → Follows parts start p → IsPossible parts p.world e → Follows parts start (goes_on parts p e)
follows_on parts start p e so possible =
    record {
      led = run_push parts p.events e start ∙ ap (λ (w : World). happens parts w e) so.led;
      possible = possible_push parts p.events e start so.possible (subst (λ (w : World). IsPossible parts w e) (sym so.led) possible);
    }

pub with_stop : (parts : Parts) (start : World) (p : Playing) (stop : Option armed.Stop) (stopped : Bool) → Follows parts start p → Follows parts start (record { world = p.world; events = p.events; stop = stop; stopped = stopped })
with_stop parts start p stop stopped so = record { led = so.led; possible = so.possible }

some_same : {X : Type 0} (x y : X) → Some x ≡ Some y → x ≡ y
some_same x y e = cc

pub due_asked : (w : World) (p : Packet) (op : Operation) → due_operation w p ≡ Some op → operation_asked p ≡ Some op
due_asked w p op is = by (is_do (act_on w.board p)) is
  where
    by : (b : Bool) → (if b then operation_asked p else None) ≡ Some op → operation_asked p ≡ Some op
    by true e = e
    by false e = absurd (cc)

pub may_cut : (w : World) (i : ℕ) (p : Packet) (op : Operation) (mask : List ℕ) → slice_get w.requests i ≡ Some p → operation_asked p ≡ Some op → MayLeave w i (cut op mask w.content)
may_cut w i p op mask got asked q got_q other asked_other =
    let same : p ≡ q = some_same p q (sym got ∙ got_q) in
    let op_same : op ≡ other = some_same op other (sym asked ∙ ap operation_asked same ∙ asked_other) in
    subst (λ (x : Operation). IsStopped x w.content (cut op mask w.content)) op_same (cut_stopped op mask w.content)

follows_stop : (parts : Parts) (start : World) (p : Playing) (i : ℕ) (packet : Packet) (o : Option Operation) (s : Option armed.Stop) → Follows parts start p → slice_get p.world.requests i ≡ Some packet → due_operation p.world packet ≡ o
    → Follows parts start (by_stop parts p i o s)
follows_stop parts start p i packet None s so got due = follows_on parts start p (ToBoard i Works) so tt
follows_stop parts start p i packet (Some op) None so got due = follows_on parts start p (ToBoard i Works) so tt
follows_stop parts start p i packet (Some op) (Some stop) so got due = by (nat_le stop.operation 1)
  where
    by : (b : Bool) → Follows parts start (if b then stops_here parts p i op stop else record (goes_on parts p (ToBoard i Works)) { stop = counted (Some stop) })
    by true =
        let cut_event = Stop i (cut op stop.mask p.world.content) in
        let once = follows_on parts start p cut_event so (may_cut p.world i packet op stop.mask got (due_asked p.world packet op due)) in
        with_stop parts start (goes_on parts (goes_on parts p cut_event) (Begin (only_runs p.world.tool.goal))) None true
        (follows_on parts start (goes_on parts p cut_event) (Begin (only_runs p.world.tool.goal)) once tt)
    by false = with_stop parts start (goes_on parts p (ToBoard i Works)) (counted (Some stop)) p.stopped (follows_on parts start p (ToBoard i Works) so tt)

pub follows_delivery : (parts : Parts) (start : World) (p : Playing) (i : ℕ) (o : Option Packet) → Follows parts start p → slice_get p.world.requests i ≡ o → Follows parts start (delivers parts p i o)
follows_delivery parts start p i None so got = so
follows_delivery parts start p i (Some packet) so got = follows_stop parts start p i packet (due_operation p.world packet) p.stop so got refl

pub follows_answer : (parts : Parts) (start : World) (p : Playing) (j : ℕ) (o : Option Packet) → Follows parts start p → Follows parts start (answers_reach parts p j o)
follows_answer parts start p j None so = so
follows_answer parts start p j (Some reply) so = follows_on parts start p (ToTool j) so tt

follows_planned : (parts : Parts) (start : World) (p : Playing) (planned : Planned) → Follows parts start p → Follows parts start (does_planned parts p planned)
follows_planned parts start p (Request i) so = follows_delivery parts start p i (slice_get p.world.requests i) so refl
follows_planned parts start p (Reply j) so = follows_answer parts start p j (slice_get p.world.replies j) so
follows_planned parts start p NewestRequest so = follows_delivery parts start p (length p.world.requests - 1) (slice_get p.world.requests (length p.world.requests - 1)) so refl
follows_planned parts start p NewestReply so = follows_answer parts start p (length p.world.replies - 1) (slice_get p.world.replies (length p.world.replies - 1)) so

either : (parts : Parts) (start : World) (b : Bool) (x y : Playing) → Follows parts start x → Follows parts start y → Follows parts start (if b then x else y)
either parts start true x y these those = these
either parts start false x y these those = those

follows_turn : (parts : Parts) (start : World) (p : Playing) (turn : List Planned) → Follows parts start p → Follows parts start (does_turn parts p turn)
follows_turn parts start p [] so = so
follows_turn parts start p (planned ∷ rest) so =
    either parts start p.stopped p (does_turn parts (does_planned parts p planned) rest) so (follows_turn parts start (does_planned parts p planned) rest (follows_planned parts start p planned so))

turn_played : (parts : Parts) (start : World) (p : Playing) (script : List Item) → Follows parts start p → Follows parts start (does_turn parts (record (goes_on parts p Send) { stopped = false }) (turn_of script))
turn_played parts start p script so =
    follows_turn parts start (record (goes_on parts p Send) { stopped = false }) (turn_of script) (with_stop parts start (goes_on parts p Send) p.stop false (follows_on parts start p Send so tt))

pub follows_play : (parts : Parts) (start : World) (n taken : ℕ) (script : List Item) (p : Playing) → Follows parts start p → Follows parts start (play parts n taken script p)
follows_play parts start zero taken script p so = so
follows_play parts start (suc n) taken script p so =
    let q = does_turn parts (record (goes_on parts p Send) { stopped = false }) (turn_of script) in
    either parts start (is_none p.world.tool.asking.waiting || (taken == 8)) p (play parts n (taken_after taken p.world.tool.asking.asked q) (script_after script) q) so
    (follows_play parts start n (taken_after taken p.world.tool.asking.asked q) (script_after script) q (turn_played parts start p script so))

pub follows_from : (parts : Parts) (w : World) (stop : Option armed.Stop) → Follows parts w (playing w stop)
follows_from parts w stop = record { led = refl; possible = tt }
