-- An honest network deploys, runs what it deployed, fetches the text and closes.
use Rattle.std.proofs.Common.{◌≡◌, ℕ, zero, suc, ◌+◌, ◌-◌, ◌<◌, ◌≤◌, Bool, true, false, ◌&&◌, List, [], ◌∷◌, ◌++◌, length, take, Option, Some, None, refl, sym, ap, subst, ◌∙◌, arith}
use Rattle.std.specs.Prelude.{slice_get, if◌then◌else◌, ◌==◌, nat_lt}
use Rattle.std.proofs.lemmas.Bool.{and_from, eq-eqb, ne_eqb, lt-ltb}
use Rattle.flash_trait.specs.Flash.{Operation, AreBytes, after}
use Rattle.wire_packets.specs.declared.packet.Packet.{Packet}
use Rattle.wire_packets.specs.declared.packet.TheConstants.{LAST_SEQ}
use Rattle.wire_packets.specs.declared.command.TheConstants.{OPEN, BANKS, DONE}
use Rattle.wire_session.specs.declared.act.Act.TheVariants.{Do, Resend, Ignore}
use Rattle.wire_session.specs.Asking.{Asking, next_request, break_after}
use Rattle.wire_session.specs.Answering.{act_on}
use Rattle.wire_session.specs.Replies.{matches, flash_shape}
use Rattle.deploy_model.specs.Banks.{Format, ROOM}
use Rattle.deploy_model.specs.Deployment.{Plan, plan_for, banks, banks_bytes, banks_told, is_spent, operations, zeroings, fillings, erases, pieces, piece, piece_count, last_operation, eight_zeros, after_all, Deploying, Next, Asks, IsSpent, next_of, asks_nth, asks_operation, asks_planned, asks_told, command_of, payload_of}
use Rattle.deploy_model.specs.Moments.{IsDeployable}
use Rattle.deploy_model.specs.Board.{Parts, Works, Did, does, did_asked, did_operation, operation_asked, reply_to}
use Rattle.deploy_model.specs.Tool.{Work, DeploysAndRuns, Goal, Stage, Tool, Deploys, Opens, Runs, asks, opens, blank, advanced, on_next, run_payload, no_plan, OnlyRuns}
use Rattle.wire_packets.specs.declared.command.TheConstants.{RUN}
use Rattle.deploy_model.specs.World.{World, ToBoard, ToTool, happens, on_act, to_board, to_tool, begins, asleep}
use Rattle.deploy_model.specs.Play.{honest_turn, honest}
use Rattle.deploy_model.specs.Promise.{plan_at}
use Rattle.deploy_laws.proofs.Asked.{asked_back, nth_askable, next_content, last_content}
use Rattle.deploy_laws.proofs.Matching.{operation_matches, banks_match, open_match}
use Rattle.deploy_laws.proofs.Counts.{get_inside, get_outside, few_operations, some_operations}
use Rattle.deploy_laws.proofs.Session.{target_small}
use Rattle.deploy_laws.proofs.Told.{banks_back}

get_pushed : {X : Type 0} (xs : List X) (x : X) → slice_get (xs ++ x ∷ []) (length xs) ≡ Some x
get_pushed [] x = refl
get_pushed (y ∷ ys) x = get_pushed ys x

-- ---- a turn
-- a world beside its tool and the number of requests done
pub record Scene : Type 0 where
  pub start : List ℕ
  pub content : List ℕ
  pub text : List ℕ
  pub kept : Option Packet
  pub requests : List Packet
  pub replies : List Packet

abbrev pub world_at : Scene → ℕ → Tool → World
world_at s n t =
    record {
      content = s.content;
      on = true;
      board = record { last = n; kept = s.kept; doing = false };
      text = s.text;
      tool = t;
      requests = s.requests;
      replies = s.replies;
      start = s.start;
    }

-- behind the answer to a request
abbrev pub scene_after : Scene → Packet → Did → Scene
scene_after s p made =
    record {
      start = s.start;
      content = made.content;
      text = made.text;
      kept = Some (reply_to p made.payload);
      requests = s.requests ++ p ∷ [];
      replies = s.replies ++ reply_to p made.payload ∷ [];
    }

-- a tool whose request was answered, or not
abbrev pub with_waiting : Tool → Stage → ℕ → List ℕ → Option Packet → Tool
with_waiting t stage command payload waiting =
    record {
      asking = record { asked = t.asking.asked + 1; waiting = waiting; turns = 0; last_break = break_after t.asking.last_break command payload };
      goal = t.goal;
      stage = stage;
      told = t.told;
      got = t.got;
    }

abbrev pub answered : Tool → Stage → ℕ → List ℕ → Tool
answered t stage command payload = with_waiting t stage command payload None

act_next : (a : Asking) (kept : Option Packet) (command : ℕ) (payload : List ℕ) → a.asked < 65535 → act_on (record { last = a.asked; kept = kept; doing = false }) (next_request a command payload) ≡ Do
act_next a kept command payload small =
    ap (λ (b : Bool). if b then Do else (if (a.asked + 1 == a.asked) && nat_lt 0 a.asked then Resend else Ignore))
    (and_from (a.asked + 1 == a.asked + 1) (nat_lt a.asked LAST_SEQ) (eq-eqb (a.asked + 1) (a.asked + 1) refl) (lt-ltb a.asked LAST_SEQ small))

abbrev pub turn_by : Parts → Scene → Tool → Stage → ℕ → List ℕ → Did → Tool → Type 0
turn_by parts s t stage command payload made tool =
    honest_turn parts (world_at s t.asking.asked (asks t stage command payload)) ≡ world_at (scene_after s (next_request t.asking command payload) made) (t.asking.asked + 1) tool

turn_is : (parts : Parts) (s : Scene) (t : Tool) (stage : Stage) (command : ℕ) (payload : List ℕ) → t.asking.asked < 65535
    → matches (break_after t.asking.last_break command payload) (next_request t.asking command payload) (reply_to (next_request t.asking command payload) (does parts s.content s.text (next_request t.asking command payload) Works).payload) ≡ true
    → turn_by parts s t stage command payload (does parts s.content s.text (next_request t.asking command payload) Works) (advanced (answered t stage command payload) (does parts s.content s.text (next_request t.asking command payload) Works).payload)
unfolding happens
turn_is parts s t stage command payload small match_it =
    let p = next_request t.asking command payload in
    let made = does parts s.content s.text p Works in
    let w = world_at s t.asking.asked (asks t stage command payload) in
    let sent_world : World = record { content = w.content; on = true; board = w.board; text = w.text; tool = w.tool; requests = s.requests ++ p ∷ []; replies = s.replies; start = s.start } in
    let done_world : World = on_act parts sent_world p Works Do in
    let e : happens parts sent_world (ToBoard (length s.requests) Works) ≡ done_world =
    ap (to_board parts sent_world Works) (get_pushed s.requests p) ∙ ap (on_act parts sent_world p Works) (act_next t.asking s.kept command payload small) in
    ap (λ (v : World). happens parts v (ToTool (length s.replies))) e
    ∙ ap (to_tool done_world) (get_pushed s.replies (reply_to p made.payload))
    ∙ ap (λ (b : Bool). if b
    then world_at (scene_after s p made) (t.asking.asked + 1) (advanced (with_waiting t stage command payload (if b then None else Some p)) made.payload)
    else done_world) match_it

-- by what the request comes to and what the tool makes of its reply
pub turn_goes : (parts : Parts) (s : Scene) (t : Tool) (stage : Stage) (command : ℕ) (payload : List ℕ) (made : Did) (tool : Tool) → t.asking.asked < 65535
    → does parts s.content s.text (next_request t.asking command payload) Works ≡ made
    → matches (break_after t.asking.last_break command payload) (next_request t.asking command payload) (reply_to (next_request t.asking command payload) made.payload) ≡ true
    → advanced (answered t stage command payload) made.payload ≡ tool
    → turn_by parts s t stage command payload made tool
turn_goes parts s t stage command payload made tool small is match_it goes =
    let p = next_request t.asking command payload in
    turn_is parts s t stage command payload small (subst (λ (x : Did). matches (break_after t.asking.last_break command payload) p (reply_to p x.payload) ≡ true) (sym is) match_it)
    ∙ ap (λ (x : Did). world_at (scene_after s p x) (t.asking.asked + 1) (advanced (answered t stage command payload) x.payload)) is
    ∙ ap (world_at (scene_after s p made) (t.asking.asked + 1)) goes

pub honest_add : (parts : Parts) (n m : ℕ) (w : World) → honest parts (n + m) w ≡ honest parts m (honest parts n w)
honest_add parts zero m w = let e : 0 + m ≡ m = omega arith in ap (λ (k : ℕ). honest parts k w) e
honest_add parts (suc n) m w = let e : suc n + m ≡ suc (n + m) = omega arith in ap (λ (k : ℕ). honest parts k w) e ∙ honest_add parts n m (honest_turn parts w)

-- ---- what the tool makes of the replies
-- the next operation is asked for
operation_next : (t : Tool) (d : Deploying) (i : ℕ) (o : Option Operation) (command : ℕ) (payload : List ℕ) → d.asked ≡ i + 3 → slice_get (operations d.plan d.set) (i + 1) ≡ o
    → advanced (answered t (Deploys d) command payload) (DONE ∷ []) ≡ on_next (answered t (Deploys d) command payload) (asks_operation d o)
unfolding advanced next_of
operation_next t d i o command payload count nth =
    let u = answered t (Deploys d) command payload in
    let place : d.asked - 2 ≡ i + 1 = omega arith in
    ap (λ (b : Bool). on_next u (if b then (Asks BANKS [], record { set = d.set; asked = 2; plan = d.plan }) else (if d.asked == 2 then asks_told d (DONE ∷ []) else asks_nth d (d.asked - 2)))) (ne_eqb d.asked 1 (λ h. omega arith))
    ∙ ap (λ (b : Bool). on_next u (if b then asks_told d (DONE ∷ []) else asks_nth d (d.asked - 2))) (ne_eqb d.asked 2 (λ h. omega arith))
    ∙ ap (λ (k : ℕ). on_next u (asks_nth d k)) place
    ∙ ap (λ (x : Option Operation). on_next u (asks_operation d x)) nth

operation_done : (parts : Parts) (content text : List ℕ) (p : Packet) (op : Operation) → operation_asked p ≡ Some op → does parts content text p Works ≡ did_operation op content text Works
unfolding does
operation_done parts content text p op is = ap (λ (o : Option Operation). did_asked parts content text p Works o) is

-- ---- a deployment
-- all that was deployed is there, and Run is asked for
pub record IsReady (g : Goal) (said : Bool) (most : ℕ) (kept : List ℕ) (w : World) : Type 0 where
  pub scene : Scene
  pub tool : Tool
  pub world : w ≡ world_at scene tool.asking.asked (asks tool Runs RUN (run_payload g))
  pub goal : tool.goal ≡ g
  pub told : tool.told ≡ said
  pub got : tool.got ≡ []
  pub few : tool.asking.asked ≤ most
  pub content : scene.content ≡ kept

-- the turn of the i-th operation
operation_turn : (parts : Parts) (s : Scene) (t : Tool) (start set : List ℕ) (d : Deploying) (i : ℕ) (op : Operation) (o : Option Operation) → length set ≤ ROOM
    → d.set ≡ set → d.asked ≡ i + 3 → d.plan ≡ plan_at parts start → t.asking.asked ≡ i + 2 → slice_get (operations (plan_at parts start) set) i ≡ Some op → slice_get (operations (plan_at parts start) set) (i + 1) ≡ o
    → turn_by parts s t (Deploys d) (command_of op) (payload_of op) (did_operation op s.content s.text Works) (on_next (answered t (Deploys d) (command_of op) (payload_of op)) (asks_operation d o))
operation_turn parts s t start set d i op o room same_set count plan number nth next =
    let p = next_request t.asking (command_of op) (payload_of op) in
    let asked : operation_asked p ≡ Some op = asked_back op (t.asking.asked + 1) (nth_askable (plan_at parts start) set (target_small (banks parts.format start)) room i op nth) in
    let there = get_inside (operations (plan_at parts start) set) i op nth in
    let few = few_operations (plan_at parts start) set room in
    let nth_d : slice_get (operations d.plan d.set) (i + 1) ≡ o =
    ap (λ (q : Plan). slice_get (operations q d.set) (i + 1)) plan ∙ ap (λ (xs : List ℕ). slice_get (operations (plan_at parts start) xs) (i + 1)) same_set ∙ next in
    turn_goes parts s t (Deploys d) (command_of op) (payload_of op) (did_operation op s.content s.text Works) (on_next (answered t (Deploys d) (command_of op) (payload_of op)) (asks_operation d o)) (omega arith)
    (operation_done parts s.content s.text p op asked) (operation_matches (break_after t.asking.last_break (command_of op) (payload_of op)) p op asked).0 (operation_next t d i o (command_of op) (payload_of op) count nth_d)

-- the premises of a deployment that goes on, at the i-th operation
record Underway (parts : Parts) (g : Goal) (start set : List ℕ) (s : Scene) (t : Tool) (d : Deploying) (i : ℕ) : Type 0 where
  same_set : d.set ≡ set
  count : d.asked ≡ i + 3
  plan : d.plan ≡ plan_at parts start
  number : t.asking.asked ≡ i + 2
  goal : t.goal ≡ g
  got : t.got ≡ []
  content : s.content ≡ after_all (take i (operations (plan_at parts start) set)) start

operations_run : (parts : Parts) (g : Goal) (start set : List ℕ) (m : ℕ) (s : Scene) (t : Tool) (d : Deploying) (i : ℕ) (op : Operation) → length set ≤ ROOM
    → Underway parts g start set s t d i → slice_get (operations (plan_at parts start) set) i ≡ Some op → i + suc m ≡ length (operations (plan_at parts start) set)
    → IsReady g true 142 (after_all (operations (plan_at parts start) set) start) (honest parts (suc m) (world_at s t.asking.asked (asks t (Deploys d) (command_of op) (payload_of op))))
operations_run parts g start set zero s t d i op room so nth left =
    by (slice_get (operations (plan_at parts start) set) (i + 1)) refl
  where
    by : (o : Option Operation) → slice_get (operations (plan_at parts start) set) (i + 1) ≡ o
        → IsReady g true 142 (after_all (operations (plan_at parts start) set) start) (honest_turn parts (world_at s t.asking.asked (asks t (Deploys d) (command_of op) (payload_of op))))
    by (Some next) is = let h = get_inside (operations (plan_at parts start) set) (i + 1) next is in absurd (omega arith)
    by None is =
        let few = few_operations (plan_at parts start) set room in
        let number = so.number in
        let u = answered t (Deploys d) (command_of op) (payload_of op) in
        record {
          scene = scene_after s (next_request t.asking (command_of op) (payload_of op)) (did_operation op s.content s.text Works);
          tool = record { asking = u.asking; goal = u.goal; stage = u.stage; told = true; got = u.got };
          world =
              operation_turn parts s t start set d i op None room so.same_set so.count so.plan so.number nth is
              ∙ ap (λ (x : Goal). world_at (scene_after s (next_request t.asking (command_of op) (payload_of op)) (did_operation op s.content s.text Works)) (t.asking.asked + 1)
              (asks (record { asking = u.asking; goal = u.goal; stage = u.stage; told = true; got = u.got }) Runs RUN (run_payload x))) so.goal;
          goal = so.goal;
          told = refl;
          got = so.got;
          few = omega arith;
          content = ap (after op) so.content ∙ next_content (operations (plan_at parts start) set) i op start nth ∙ last_content (operations (plan_at parts start) set) (i + 1) start is;
        }
operations_run parts g start set (suc m) s t d i op room so nth left =
    by (slice_get (operations (plan_at parts start) set) (i + 1)) refl (λ next is.
    operations_run parts g start set m (scene_after s (next_request t.asking (command_of op) (payload_of op)) (did_operation op s.content s.text Works)) (answered t (Deploys d) (command_of op) (payload_of op))
    (record { set = d.set; asked = d.asked + 1; plan = d.plan }) (i + 1) next room
    (record {
      same_set = so.same_set;
      count = let e = so.count in omega arith;
      plan = so.plan;
      number = let e = so.number in omega arith;
      goal = so.goal;
      got = so.got;
      content = ap (after op) so.content ∙ next_content (operations (plan_at parts start) set) i op start nth;
    }) is (omega arith))
  where
    by : (o : Option Operation) → slice_get (operations (plan_at parts start) set) (i + 1) ≡ o
        → ((next : Operation) → slice_get (operations (plan_at parts start) set) (i + 1) ≡ Some next → IsReady g true 142 (after_all (operations (plan_at parts start) set) start) (honest parts (suc m)
        (world_at (scene_after s (next_request t.asking (command_of op) (payload_of op)) (did_operation op s.content s.text Works)) (t.asking.asked + 1)
        (on_next (answered t (Deploys d) (command_of op) (payload_of op)) (asks_operation d (Some next))))))
        → IsReady g true 142 (after_all (operations (plan_at parts start) set) start) (honest parts (suc (suc m)) (world_at s t.asking.asked (asks t (Deploys d) (command_of op) (payload_of op))))
    by None is goes = let h = get_outside (operations (plan_at parts start) set) (i + 1) is in absurd (omega arith)
    by (Some next) is goes =
        subst (λ (w : World). IsReady g true 142 (after_all (operations (plan_at parts start) set) start) (honest parts (suc m) w))
        (sym (operation_turn parts s t start set d i op (Some next) room so.same_set so.count so.plan so.number nth is))
        (goes next is)

-- ---- Open and Banks
abbrev asked_by : List ℕ → ℕ → Plan → Deploying
asked_by set n plan = record { set = set; asked = n; plan = plan }

pub open_done : (parts : Parts) (content text : List ℕ) (a : Asking) → does parts content text (next_request a OPEN []) Works ≡ record { content = content; text = text; payload = DONE ∷ flash_shape }
unfolding does operation_asked
open_done parts content text a = refl

open_next : (t : Tool) (set : List ℕ) (plan : Plan) → advanced (answered t (Deploys (asked_by set 1 plan)) OPEN []) (DONE ∷ flash_shape)
    ≡ asks (answered t (Deploys (asked_by set 1 plan)) OPEN []) (Deploys (asked_by set 2 plan)) BANKS []
unfolding advanced next_of
open_next t set plan = refl

banks_done : (parts : Parts) (content text : List ℕ) (a : Asking) → does parts content text (next_request a BANKS []) Works ≡ record { content = content; text = text; payload = DONE ∷ banks_bytes (banks parts.format content) }
unfolding does operation_asked
banks_done parts content text a = refl

banks_next : (t : Tool) (f : Format) (set content : List ℕ) (plan : Plan) → AreBytes content → is_spent (banks f content) ≡ false
    → advanced (answered t (Deploys (asked_by set 2 plan)) BANKS []) (DONE ∷ banks_bytes (banks f content))
    ≡ on_next (answered t (Deploys (asked_by set 2 plan)) BANKS []) (asks_operation (asked_by set 2 (plan_for (banks f content))) (slice_get (operations (plan_for (banks f content)) set) 0))
unfolding advanced next_of
banks_next t f set content plan bytes unspent =
    let u = answered t (Deploys (asked_by set 2 plan)) BANKS [] in
    ap (λ (b : Rattle.deploy_model.specs.Deployment.Banks). on_next u (asks_planned (asked_by set 2 plan) b)) (banks_back f content bytes)
    ∙ ap (λ (b : Bool). on_next u (if b then (IsSpent, asked_by set 2 plan) else asks_nth (asked_by set 2 (plan_for (banks f content))) 0)) unspent

-- behind Banks
banks_run : (parts : Parts) (g : Goal) (start set : List ℕ) (s : Scene) (t : Tool) → IsDeployable parts.format set → AreBytes start → is_spent (banks parts.format start) ≡ false
    → t.goal ≡ g → t.got ≡ [] → t.asking.asked ≡ 1 → s.content ≡ start
    → IsReady g true 142 (after_all (operations (plan_at parts start) set) start) (honest parts (suc (length (operations (plan_at parts start) set))) (world_at s t.asking.asked (asks t (Deploys (asked_by set 2 no_plan)) BANKS [])))
banks_run parts g start set s t can bytes unspent goal got one content = by (slice_get (operations (plan_at parts start) set) 0) refl
  where
    made : Did
    made = record { content = s.content; text = s.text; payload = DONE ∷ banks_bytes (banks parts.format s.content) }

    turn : (o : Option Operation) → slice_get (operations (plan_at parts start) set) 0 ≡ o
        → turn_by parts s t (Deploys (asked_by set 2 no_plan)) BANKS [] made
        (on_next (answered t (Deploys (asked_by set 2 no_plan)) BANKS []) (asks_operation (asked_by set 2 (plan_at parts start)) o))
    turn o is =
        let u = answered t (Deploys (asked_by set 2 no_plan)) BANKS [] in
        turn_goes parts s t (Deploys (asked_by set 2 no_plan)) BANKS [] made (on_next u (asks_operation (asked_by set 2 (plan_at parts start)) o)) (omega arith)
        (banks_done parts s.content s.text t.asking)
        (banks_match (break_after t.asking.last_break BANKS []) parts.format s.content (next_request t.asking BANKS []) (subst AreBytes (sym content) bytes) refl)
        (ap (λ (c : List ℕ). advanced u (DONE ∷ banks_bytes (banks parts.format c))) content
        ∙ banks_next t parts.format set start no_plan bytes unspent ∙ ap (λ (x : Option Operation). on_next u (asks_operation (asked_by set 2 (plan_at parts start)) x)) is)

    some : (op : Operation) (m : ℕ) → slice_get (operations (plan_at parts start) set) 0 ≡ Some op → 0 + suc m ≡ length (operations (plan_at parts start) set)
        → IsReady g true 142 (after_all (operations (plan_at parts start) set) start)
        (honest parts (suc m) (world_at (scene_after s (next_request t.asking BANKS []) made) (t.asking.asked + 1) (on_next (answered t (Deploys (asked_by set 2 no_plan)) BANKS []) (asks_operation (asked_by set 2 (plan_at parts start)) (Some op)))))
    some op m is left =
        operations_run parts g start set m (scene_after s (next_request t.asking BANKS []) made) (answered t (Deploys (asked_by set 2 no_plan)) BANKS []) (asked_by set 3 (plan_at parts start)) 0 op can.room
        (record { same_set = refl; count = refl; plan = refl; number = omega arith; goal = goal; got = got; content = content }) is left

    by : (o : Option Operation) → slice_get (operations (plan_at parts start) set) 0 ≡ o
        → IsReady g true 142 (after_all (operations (plan_at parts start) set) start) (honest parts (suc (length (operations (plan_at parts start) set))) (world_at s t.asking.asked (asks t (Deploys (asked_by set 2 no_plan)) BANKS [])))
    by None is = let none = get_outside (operations (plan_at parts start) set) 0 is in let many = some_operations (plan_at parts start) set in absurd (omega arith)
    by (Some op) is =
        let m = length (operations (plan_at parts start) set) - 1 in
        let there = get_inside (operations (plan_at parts start) set) 0 op is in
        let e : length (operations (plan_at parts start) set) ≡ suc m = omega arith in
        subst (λ (k : ℕ). IsReady g true 142 (after_all (operations (plan_at parts start) set) start) (honest parts (suc k) (world_at s t.asking.asked (asks t (Deploys (asked_by set 2 no_plan)) BANKS [])))) (sym e)
        (subst (λ (w : World). IsReady g true 142 (after_all (operations (plan_at parts start) set) start) (honest parts (suc m) w)) (sym (turn (Some op) is))
        (some op m is (omega arith)))

-- ---- from the start
abbrev begun_scene : List ℕ → Scene
begun_scene c = record { start = c; content = c; text = []; kept = None; requests = []; replies = [] }

begun : (g : Goal) (set : List ℕ) (x : Work) → x ≡ DeploysAndRuns set → opens g x ≡ asks (blank g) (Deploys (asked_by set 1 no_plan)) OPEN []
unfolding next_of
begun g set x e = ap (opens g) e

-- a whole deployment
pub honest_deploys : (parts : Parts) (g : Goal) (start set : List ℕ) → g.work ≡ DeploysAndRuns set → IsDeployable parts.format set → AreBytes start → is_spent (banks parts.format start) ≡ false
    → IsReady g true 142 (after_all (operations (plan_at parts start) set) start) (honest parts (suc (suc (length (operations (plan_at parts start) set)))) (begins (asleep start) g))
honest_deploys parts g start set work can bytes unspent =
    let s = begun_scene start in
    let t = blank g in
    let stage = Deploys (asked_by set 1 no_plan) in
    let made : Did = record { content = start; text = []; payload = DONE ∷ flash_shape } in
    let u = answered t stage OPEN [] in
    let turn = turn_goes parts s t stage OPEN [] made (asks u (Deploys (asked_by set 2 no_plan)) BANKS []) (omega arith) (open_done parts start [] t.asking)
    (open_match (break_after None OPEN []) (next_request t.asking OPEN []) refl) (open_next t set no_plan) in
    subst (λ (v : World). IsReady g true 142 (after_all (operations (plan_at parts start) set) start) (honest parts (suc (length (operations (plan_at parts start) set))) v))
    (sym (ap (λ (x : Tool). honest_turn parts (world_at s 0 x)) (begun g set g.work work) ∙ turn))
    (banks_run parts g start set (scene_after s (next_request t.asking OPEN []) made) u can bytes unspent refl refl refl refl)

opened : (t : Tool) → advanced (answered t Opens OPEN []) (DONE ∷ flash_shape) ≡ asks (answered t Opens OPEN []) Runs RUN (run_payload t.goal)
unfolding advanced
opened t = refl

-- a session that only runs
pub honest_opens : (parts : Parts) (g : Goal) (start : List ℕ) → g.work ≡ OnlyRuns → IsReady g false 142 start (honest parts 1 (begins (asleep start) g))
honest_opens parts g start work =
    let s = begun_scene start in
    let t = blank g in
    let made : Did = record { content = start; text = []; payload = DONE ∷ flash_shape } in
    let u = answered t Opens OPEN [] in
    record {
      scene = scene_after s (next_request t.asking OPEN []) made;
      tool = u;
      world =
          ap (λ (x : Work). honest_turn parts (world_at s 0 (opens g x))) work
          ∙ turn_goes parts s t Opens OPEN [] made (asks u Runs RUN (run_payload g)) (omega arith) (open_done parts start [] t.asking) (open_match (break_after None OPEN []) (next_request t.asking OPEN []) refl) (opened t);
      goal = refl;
      told = refl;
      got = refl;
      few = omega arith;
      content = refl;
    }
