-- Every event keeps what the laws promise.
use Rattle.std.proofs.Common.{◌≡◌, ◌⊎◌, ℕ, zero, suc, ◌+◌, ◌-◌, ◌≤◌, Bool, true, false, ◌&&◌, List, [], ◌∷◌, ◌++◌, length, take, Option, Some, None, refl, sym, ap, subst, ◌∙◌, inl, inr, arith}
use Rattle.std.specs.Prelude.{slice_get, if◌then◌else◌, ◌==◌, nat_lt}
use Rattle.std.proofs.lemmas.Bool.{and_parts, eqb-true, true≢false}
use Rattle.std.proofs.lemmas.List.{take_all}
use Rattle.flash_trait.specs.Flash.{Operation, AreBytes, IsStopped, after}
use Rattle.flash_trait.proofs.FlashContents.{after_stopped}
use Rattle.wire_packets.specs.declared.packet.Packet.{Packet}
use Rattle.wire_packets.specs.declared.packet.TheConstants.{REQUEST, REPLY, LAST_SEQ}
use Rattle.wire_packets.specs.declared.command.TheConstants.{OPEN, READ, FETCH, CLOSE, BANKS, RUN, PROGRAM, ERASE, DONE, FLASH_FAILED}
use Rattle.wire_session.specs.declared.act.Act.{Act}
use Rattle.wire_session.specs.declared.act.Act.TheVariants.{Do, Resend, Ignore}
use Rattle.wire_session.specs.Asking.{next_request, after_reply, is_awaited, waiting_matches}
use Rattle.wire_session.specs.Answering.{Answering, nothing_done, act_on, is_do}
use Rattle.wire_session.specs.Replies.{matches, answers}
use Rattle.deploy_model.specs.Banks.{IsFormat}
use Rattle.deploy_model.specs.Deployment.{banks, banks_bytes, next_of, beginning, Deploying, operations}
use Rattle.deploy_model.specs.Board.{Parts, Outcome, Works, Fails, LacksMemory, Did, did, does, did_asked, did_operation, did_other, did_run, is_run, operation_asked, program_asked, erase_asked, reply_to, if_empty, piece_of}
use Rattle.deploy_model.specs.Tool.{Work, DeploysAndRuns, OnlyRuns, Goal, Deploys, Tool, takes, blank, opens, no_plan}
use Rattle.deploy_model.specs.World.{World, Event, Send, ToBoard, Stop, ToTool, Begin, sent, on_act, to_board, cut_off, stops, to_tool, happens, MayLeave, FitsOutcome, FitsWork, IsPossible, run, ArePossible, asleep}
use Rattle.deploy_model.specs.Promise.{plan_at, SafeWork, content_after, content_by, IsDoneBy, AllDone, LastFailed, Progressed, Untouched, AfterSome, AfterFailed, IsSound}
use Rattle.deploy_laws.proofs.Asked.{next_content, bytes_stay}
use Rattle.deploy_laws.proofs.Session.{CanDeploy, ops, Steady, Unwritten, Complete, Settled, NeverTouched, Steadily, Halted, Broken, Counts, Before, AtOpen, AtBanks, AtOperation, Later, After, OpenDone, BanksDone, OperationDone, OperationFailed, LaterDone, Progress, Waits, Answered, Rests, Awake, Inv, Goes, advances, settled_safe, settled_told, after_settled, no_open, some_same}

-- ---- what a progress settles
before_settled : (parts : Parts) (start : List ℕ) (t : Tool) (p : Packet) (content : List ℕ) (done : ℕ) → done + 1 ≡ t.asking.asked → Before parts start t p content → Settled parts start t.goal.work t.told done content
before_settled parts start t p content done next (AtOpen set d work deployable stage same_set count untold none same) = NeverTouched (let e = count.1 in omega arith) same untold
before_settled parts start t p content done next (AtBanks set d work deployable stage same_set count untold command payload same) = NeverTouched (let e = count.1 in omega arith) same untold
before_settled parts start t p content done next (AtOperation set d i op work can stage same_set count plan untold nth asked same) = Halted set i work can untold (let e = count.1 in omega arith) same
before_settled parts start t p content done next (Later later none before_it earlier steady) =
    let e : before_it ≡ done = omega arith in Steadily (subst (λ (n : ℕ). Steady parts start t.goal.work t.told n content) e steady)

settled_of : (parts : Parts) (w : World) → Progress parts w → Settled parts w.start w.tool.goal.work w.tool.told w.board.last w.content
settled_of parts w (Waits p waiting seq last before) = before_settled parts w.start w.tool p w.content w.board.last last before
settled_of parts w (Answered p r waiting seq last kept done) =
    subst (λ (n : ℕ). Settled parts w.start w.tool.goal.work w.tool.told n w.content) (sym last) (after_settled parts w.start w.tool r.payload.items w.content done)
settled_of parts w (Rests none last settled) = settled

all_taken : (ops : List Operation) (start : List ℕ) (n : ℕ) → length ops ≤ n → Rattle.deploy_model.specs.Deployment.after_all ops start ≡ Rattle.deploy_model.specs.Deployment.after_all (take n ops) start
all_taken ops start n many = sym (ap (λ (xs : List Operation). Rattle.deploy_model.specs.Deployment.after_all xs start) (take_all n ops many))

settled_progressed : (parts : Parts) (w : World) (done : ℕ) → Settled parts w.start w.tool.goal.work w.tool.told done w.content → Progressed parts w
settled_progressed parts w done (NeverTouched few same untold) = Untouched same
settled_progressed parts w done (Steadily (Unwritten work same untold)) = Untouched same
settled_progressed parts w done (Steadily (Complete set work can many same)) =
    AfterSome set (length (ops parts w.start set)) work (same ∙ all_taken (ops parts w.start set) w.start (length (ops parts w.start set)) (omega arith))
settled_progressed parts w done (Halted set i work can untold count same) = AfterSome set i work same
settled_progressed parts w done (Broken set i op work can untold count nth stopped) = AfterFailed set i op work nth stopped

-- by the requests that were done
untouched_by : (parts : Parts) (work : Work) (start : List ℕ) (done : ℕ) → done ≤ 2 → start ≡ content_by parts work start done
untouched_by parts (DeploysAndRuns set) start done few = let e : 0 ≡ done - 2 = omega arith in ap (λ (n : ℕ). content_after parts set start n) e
untouched_by parts OnlyRuns start done few = refl

by_deployed : (parts : Parts) (work : Work) (set start : List ℕ) (done : ℕ) → work ≡ DeploysAndRuns set → content_after parts set start (done - 2) ≡ content_by parts work start done
by_deployed parts work set start done is = ap (λ (x : Work). content_by parts x start done) (sym is)

settled_done : (parts : Parts) (w : World) → Settled parts w.start w.tool.goal.work w.tool.told w.board.last w.content → IsDoneBy parts w
settled_done parts w (NeverTouched few same untold) = AllDone (same ∙ untouched_by parts w.tool.goal.work w.start w.board.last few)
settled_done parts w (Steadily (Unwritten work same untold)) = AllDone (same ∙ sym (ap (λ (x : Work). content_by parts x w.start w.board.last) work))
settled_done parts w (Steadily (Complete set work can many same)) =
    AllDone (same ∙ all_taken (ops parts w.start set) w.start (w.board.last - 2) (omega arith) ∙ by_deployed parts w.tool.goal.work set w.start w.board.last work)
settled_done parts w (Halted set i work can untold count same) =
    let e : i ≡ w.board.last - 2 = omega arith in
    AllDone (same ∙ ap (λ (n : ℕ). content_after parts set w.start n) e ∙ by_deployed parts w.tool.goal.work set w.start w.board.last work)
settled_done parts w (Broken set i op work can untold count nth stopped) = LastFailed set i op work count nth stopped

inv_awake : (parts : Parts) (w : World) → length w.content ≡ 262144 → AreBytes w.content → length w.start ≡ 262144 → AreBytes w.start → Awake parts w → Inv parts w
inv_awake parts w size bytes start_size start_bytes awake =
    let settled = settled_of parts w awake.progress in
    record {
      size = size;
      bytes = bytes;
      start_size = start_size;
      start_bytes = start_bytes;
      safe = settled_safe parts w.start w.tool.goal.work w.tool.told w.board.last w.content settled;
      progressed = settled_progressed parts w w.board.last settled;
      awake = λ on. awake;
    }

-- ---- lists
push_cases : {X : Type 0} (xs : List X) (y x : X) (i : ℕ) → slice_get (xs ++ y ∷ []) i ≡ Some x → (slice_get xs i ≡ Some x) ⊎ (y ≡ x)
push_cases [] y x zero is = inr (some_same y x is)
push_cases [] y x (suc i) is = absurd (cc)
push_cases (z ∷ zs) y x zero is = inl is
push_cases (z ∷ zs) y x (suc i) is = push_cases zs y x i is

-- ---- the board's answers
do_test : (b c d : Bool) → (if b then (if c then Do else (if d then Resend else Ignore)) else Ignore) ≡ Do → c ≡ true
do_test true true d is = refl
do_test true false true is = absurd (cc)
do_test true false false is = absurd (cc)
do_test false c d is = absurd (cc)

pub do_next : (a : Answering) (p : Packet) → act_on a p ≡ Do → p.seq ≡ a.last + 1
do_next a p is =
    eqb-true p.seq (a.last + 1) (and_parts (p.seq == a.last + 1) (nat_lt a.last LAST_SEQ) (do_test (p.flags == REQUEST) ((p.seq == a.last + 1) && nat_lt a.last LAST_SEQ) ((p.seq == a.last) && nat_lt 0 a.last) is)).0

other_content : (parts : Parts) (content text : List ℕ) (command : ℕ) (payload : List ℕ) (outcome : Outcome) → (did_other parts content text command payload outcome).content ≡ content
other_content parts content text command payload outcome = by_run ((command == RUN) && is_run payload) outcome
  where
    by_run : (b : Bool) (o : Outcome) → (if b then did_run parts content text payload o else did content text
        (if command == OPEN then if_empty payload Rattle.wire_session.specs.Replies.flash_shape
        else (if command == BANKS then if_empty payload (banks_bytes (banks parts.format content))
        else (if command == READ then piece_of payload content
        else (if command == FETCH then piece_of payload text
        else (if command == CLOSE then if_empty payload [] else Rattle.wire_packets.specs.declared.command.TheConstants.NO_REQUEST ∷ [])))))).content ≡ content
    by_run true Works = refl
    by_run true (Fails left) = refl
    by_run true LacksMemory = refl
    by_run false o = refl

none_content : (parts : Parts) (content text : List ℕ) (p : Packet) (outcome : Outcome) → operation_asked p ≡ None → (does parts content text p outcome).content ≡ content
unfolding does
none_content parts content text p outcome none =
    ap (λ (o : Option Operation). (did_asked parts content text p outcome o).content) none ∙ other_content parts content text p.command p.payload.items outcome

some_does : (parts : Parts) (content text : List ℕ) (p : Packet) (outcome : Outcome) (op : Operation) → operation_asked p ≡ Some op → does parts content text p outcome ≡ did_operation op content text outcome
unfolding does
some_does parts content text p outcome op is = ap (λ (o : Option Operation). did_asked parts content text p outcome o) is

pub banks_none : (p : Packet) → p.command ≡ BANKS → operation_asked p ≡ None
unfolding operation_asked
banks_none p is = ap (λ (n : ℕ). if n == PROGRAM then program_asked p.payload.items else (if n == ERASE then erase_asked p.payload.items else None)) is

banks_does : (parts : Parts) (content text : List ℕ) (p : Packet) (outcome : Outcome) → p.command ≡ BANKS → p.payload.items ≡ []
    → (does parts content text p outcome).payload ≡ DONE ∷ banks_bytes (banks parts.format content)
unfolding does
banks_does parts content text p outcome command empty =
    ap (λ (o : Option Operation). (did_asked parts content text p outcome o).payload) (banks_none p command)
    ∙ ap (λ (n : ℕ). (did_other parts content text n p.payload.items outcome).payload) command
    ∙ ap (λ (xs : List ℕ). (did_other parts content text BANKS xs outcome).payload) empty

-- what an operation leaves is one that a stop may leave
done_stopped : (op : Operation) (content text : List ℕ) (outcome : Outcome) → ((left : List ℕ) → outcome ≡ Fails left → IsStopped op content left) → IsStopped op content (did_operation op content text outcome).content
done_stopped op content text Works may = after_stopped op content
done_stopped op content text (Fails left) may = may left refl
done_stopped op content text LacksMemory may = after_stopped op content

fits_left : (w : World) (i : ℕ) (outcome : Outcome) (p : Packet) (op : Operation) → FitsOutcome w i outcome → slice_get w.requests i ≡ Some p → operation_asked p ≡ Some op
    → (left : List ℕ) → outcome ≡ Fails left → IsStopped op w.content left
fits_left w i Works p op fits got is left e = absurd (cc)
fits_left w i (Fails other) p op fits got is left e = subst (λ (c : List ℕ). IsStopped op w.content c) (fails_same other left e) (fits p got op is)
  where
    fails_same : (a b : List ℕ) → Fails a ≡ Fails b → a ≡ b
    fails_same a b h = cc
fits_left w i LacksMemory p op fits got is left e = absurd (cc)

-- the content stays, or is one that a stop may leave
content_kept : (parts : Parts) (w : World) (i : ℕ) (p : Packet) (outcome : Outcome) (o : Option Operation) → operation_asked p ≡ o → FitsOutcome w i outcome → slice_get w.requests i ≡ Some p → length w.content ≡ 262144 → AreBytes w.content
    → (length (does parts w.content w.text p outcome).content ≡ 262144) × AreBytes (does parts w.content w.text p outcome).content
content_kept parts w i p outcome None is fits got size bytes =
    let e = none_content parts w.content w.text p outcome is in
    (ap length e ∙ size, subst AreBytes (sym e) bytes)
content_kept parts w i p outcome (Some op) is fits got size bytes =
    let stopped = done_stopped op w.content w.text outcome (fits_left w i outcome p op fits got is) in
    let e : (does parts w.content w.text p outcome).content ≡ (did_operation op w.content w.text outcome).content = ap (λ (x : Did). x.content) (some_does parts w.content w.text p outcome op is) in
    (ap length e ∙ stopped.size ∙ size, subst AreBytes (sym e) (bytes_stay op w.content (did_operation op w.content w.text outcome).content stopped bytes))

-- ---- the open request is done
does_operation : (parts : Parts) (start : List ℕ) (t : Tool) (content text : List ℕ) (set : List ℕ) (d : Deploying) (i : ℕ) (op : Operation) (outcome : Outcome) → t.goal.work ≡ DeploysAndRuns set → CanDeploy parts start set → t.stage ≡ Deploys d → d.set ≡ set
    → Counts d t (i + 3) → d.plan ≡ plan_at parts start → t.told ≡ false → slice_get (ops parts start set) i ≡ Some op → content ≡ content_after parts set start i
    → ((left : List ℕ) → outcome ≡ Fails left → IsStopped op content left)
    → After parts start t (did_operation op content text outcome).payload (did_operation op content text outcome).content
does_operation parts start t content text set d i op Works work can stage same_set count plan untold nth same may =
    OperationDone set d i op work can stage same_set count plan untold nth refl (ap (after op) same ∙ next_content (ops parts start set) i op start nth)
does_operation parts start t content text set d i op (Fails left) work can stage same_set count plan untold nth same may =
    OperationFailed set d i op work can stage count untold nth refl (subst (λ (c : List ℕ). IsStopped op c left) same (may left refl))
does_operation parts start t content text set d i op LacksMemory work can stage same_set count plan untold nth same may =
    OperationDone set d i op work can stage same_set count plan untold nth refl (ap (after op) same ∙ next_content (ops parts start set) i op start nth)

one_more : (parts : Parts) (start : List ℕ) (work : Work) (told : Bool) (done more : ℕ) (content : List ℕ) → done + 1 ≡ more → Steady parts start work told done content → Steady parts start work told more content
one_more parts start work told done more content next (Unwritten is same untold) = Unwritten is same untold
one_more parts start work told done more content next (Complete set is can many same) = Complete set is can (omega arith) same

does_open : (parts : Parts) (w : World) (p : Packet) (outcome : Outcome) → ((op : Operation) → operation_asked p ≡ Some op → (left : List ℕ) → outcome ≡ Fails left → IsStopped op w.content left)
    → Before parts w.start w.tool p w.content → After parts w.start w.tool (does parts w.content w.text p outcome).payload (does parts w.content w.text p outcome).content
does_open parts w p outcome may (AtOpen set d work deployable stage same_set count untold none same) =
    OpenDone set d work deployable stage same_set count untold (none_content parts w.content w.text p outcome none ∙ same)
does_open parts w p outcome may (AtBanks set d work deployable stage same_set count untold command payload same) =
    BanksDone set d work deployable stage same_set count untold
    (banks_does parts w.content w.text p outcome command payload ∙ ap (λ (c : List ℕ). DONE ∷ banks_bytes (banks parts.format c)) same)
    (none_content parts w.content w.text p outcome (banks_none p command) ∙ same)
does_open parts w p outcome may (AtOperation set d i op work can stage same_set count plan untold nth asked same) =
    subst (λ (x : Did). After parts w.start w.tool x.payload x.content) (sym (some_does parts w.content w.text p outcome op asked))
    (does_operation parts w.start w.tool w.content w.text set d i op outcome work can stage same_set count plan untold nth same (may op asked))
does_open parts w p outcome may (Later later none done next steady) =
    LaterDone later (subst (λ (c : List ℕ). Steady parts w.start w.tool.goal.work w.tool.told w.tool.asking.asked c) (sym (none_content parts w.content w.text p outcome none)) (one_more parts w.start w.tool.goal.work w.tool.told done w.tool.asking.asked w.content next steady))

too_late : (a b c : ℕ) → a ≡ b + 1 → a ≤ c → b ≡ c → ⊥
too_late a b c e low same = omega arith

-- the request that is done is the open one
pub is_open : (parts : Parts) (w : World) (i : ℕ) (p : Packet) → Awake parts w → act_on w.board p ≡ Do → slice_get w.requests i ≡ Some p
    → (w.tool.asking.waiting ≡ Some p) × (p.seq ≡ w.tool.asking.asked) × (w.board.last + 1 ≡ w.tool.asking.asked) × Before parts w.start w.tool p w.content
is_open parts w i p awake act got = by_progress awake.progress
  where
    by_progress : Progress parts w → (w.tool.asking.waiting ≡ Some p) × (p.seq ≡ w.tool.asking.asked) × (w.board.last + 1 ≡ w.tool.asking.asked) × Before parts w.start w.tool p w.content
    by_progress (Waits q waiting seq last before) =
        let same : p ≡ q = awake.newest i p got (do_next w.board p act ∙ last) q waiting in
        (waiting ∙ ap Some (sym same), ap (λ (x : Packet). x.seq) same ∙ seq, last, subst (λ (x : Packet). Before parts w.start w.tool x w.content) (sym same) before)
    by_progress (Answered q r waiting seq last kept done) = absurd (too_late p.seq w.board.last w.tool.asking.asked (do_next w.board p act) (awake.requests i p got) last)
    by_progress (Rests none last settled) = absurd (too_late p.seq w.board.last w.tool.asking.asked (do_next w.board p act) (awake.requests i p got) last)

step_do : (parts : Parts) (w : World) (i : ℕ) (p : Packet) (outcome : Outcome) → Inv parts w → Awake parts w → FitsOutcome w i outcome → act_on w.board p ≡ Do → slice_get w.requests i ≡ Some p → Inv parts (on_act parts w p outcome Do)
step_do parts w i p outcome inv awake fits act got =
    let open_one = is_open parts w i p awake act got in
    let kept_content = content_kept parts w i p outcome (operation_asked p) refl fits got inv.size inv.bytes in
    let reply = reply_to p (does parts w.content w.text p outcome).payload in
    let next : p.seq ≡ w.board.last + 1 = do_next w.board p act in
    inv_awake parts (on_act parts w p outcome Do) kept_content.0 kept_content.1 inv.start_size inv.start_bytes
    (record {
      requests = awake.requests;
      newest = awake.newest;
      replies = λ j r is.
          elim (push_cases w.replies reply r j is) [
            | inl before ↦ let h = awake.replies j r before in omega arith
            | inr same ↦ let h : r.reply_seq ≡ p.seq = ap (λ (x : Packet). x.reply_seq) (sym same) in omega arith
          ];
      last = λ j r is now.
          elim (push_cases w.replies reply r j is) [
            | inl before ↦ let h = awake.replies j r before in absurd (omega arith)
            | inr same ↦ ap Some same
          ];
      kept = λ r is. ap (λ (x : Packet). x.reply_seq) (sym (some_same reply r is)) ∙ next;
      progress =
          Answered p reply open_one.0 open_one.1 open_one.2 refl
          (does_open parts w p outcome (λ op is. fits_left w i outcome p op fits got is) open_one.3);
    })

-- ---- only the lists change
abbrev with_lists : World → List Packet → List Packet → World
with_lists w requests replies =
    record { content = w.content; on = w.on; board = w.board; text = w.text; tool = w.tool; requests = requests; replies = replies; start = w.start }

lists_progress : (parts : Parts) (w : World) (requests replies : List Packet) → Progress parts w → Progress parts (with_lists w requests replies)
lists_progress parts w requests replies (Waits p waiting seq last before) = Waits p waiting seq last before
lists_progress parts w requests replies (Answered p r waiting seq last kept done) = Answered p r waiting seq last kept done
lists_progress parts w requests replies (Rests none last settled) = Rests none last settled

step_resend : (parts : Parts) (w : World) (p : Packet) (outcome : Outcome) → Inv parts w → Awake parts w → Inv parts (on_act parts w p outcome Resend)
step_resend parts w p outcome inv awake = by_kept w.board.kept refl
  where
    by_kept : (k : Option Packet) → w.board.kept ≡ k → Inv parts (with_lists w w.requests (sent w.replies k))
    by_kept None is =
        inv_awake parts (with_lists w w.requests w.replies) inv.size inv.bytes inv.start_size inv.start_bytes
        (record { requests = awake.requests; newest = awake.newest; replies = awake.replies; last = awake.last; kept = awake.kept; progress = lists_progress parts w w.requests w.replies awake.progress })
    by_kept (Some r) is =
        inv_awake parts (with_lists w w.requests (w.replies ++ r ∷ [])) inv.size inv.bytes inv.start_size inv.start_bytes
        (record {
          requests = awake.requests;
          newest = awake.newest;
          replies = λ j x got.
              elim (push_cases w.replies r x j got) [
                | inl before ↦ awake.replies j x before
                | inr same ↦ let h = awake.kept r is in let g : x.reply_seq ≡ r.reply_seq = ap (λ (y : Packet). y.reply_seq) (sym same) in omega arith
              ];
          last = λ j x got now.
              elim (push_cases w.replies r x j got) [
                | inl before ↦ awake.last j x before now
                | inr same ↦ is ∙ ap Some same
              ];
          kept = awake.kept;
          progress = lists_progress parts w w.requests (w.replies ++ r ∷ []) awake.progress;
        })

step_board : (parts : Parts) (w : World) (i : ℕ) (outcome : Outcome) (o : Option Packet) → Inv parts w → Awake parts w → FitsOutcome w i outcome → slice_get w.requests i ≡ o → Inv parts (to_board parts w outcome o)
step_board parts w i outcome None inv awake fits got = inv
step_board parts w i outcome (Some p) inv awake fits got = by_act (act_on w.board p) refl
  where
    by_act : (a : Act) → act_on w.board p ≡ a → Inv parts (on_act parts w p outcome a)
    by_act Do act = step_do parts w i p outcome inv awake fits act got
    by_act Resend act = step_resend parts w p outcome inv awake
    by_act Ignore act = inv

-- ---- a request is sent
waiting_number : (parts : Parts) (w : World) (p : Packet) → Progress parts w → w.tool.asking.waiting ≡ Some p → p.seq ≡ w.tool.asking.asked
waiting_number parts w p (Waits q waiting seq last before) is = ap (λ (x : Packet). x.seq) (some_same p q (sym is ∙ waiting)) ∙ seq
waiting_number parts w p (Answered q r waiting seq last kept done) is = ap (λ (x : Packet). x.seq) (some_same p q (sym is ∙ waiting)) ∙ seq
waiting_number parts w p (Rests none last settled) is = absurd (none_some p (sym none ∙ is))
  where
    none_some : (x : Packet) → None ≡ Some x → ⊥
    none_some x e = absurd (cc)

step_send : (parts : Parts) (w : World) → Inv parts w → Awake parts w → Inv parts (with_lists w (sent w.requests w.tool.asking.waiting) w.replies)
step_send parts w inv awake = by_waiting w.tool.asking.waiting refl
  where
    by_waiting : (o : Option Packet) → w.tool.asking.waiting ≡ o → Inv parts (with_lists w (sent w.requests o) w.replies)
    by_waiting None is =
        inv_awake parts (with_lists w w.requests w.replies) inv.size inv.bytes inv.start_size inv.start_bytes
        (record { requests = awake.requests; newest = awake.newest; replies = awake.replies; last = awake.last; kept = awake.kept; progress = lists_progress parts w w.requests w.replies awake.progress })
    by_waiting (Some p) is =
        inv_awake parts (with_lists w (w.requests ++ p ∷ []) w.replies) inv.size inv.bytes inv.start_size inv.start_bytes
        (record {
          requests = λ i x got.
              elim (push_cases w.requests p x i got) [
                | inl before ↦ awake.requests i x before
                | inr same ↦ let h = waiting_number parts w p awake.progress is in let g : x.seq ≡ p.seq = ap (λ (y : Packet). y.seq) (sym same) in omega arith
              ];
          newest = λ i x got now q waiting.
              elim (push_cases w.requests p x i got) [
                | inl before ↦ awake.newest i x before now q waiting
                | inr same ↦ sym same ∙ some_same p q (sym is ∙ waiting)
              ];
          replies = awake.replies;
          last = awake.last;
          kept = awake.kept;
          progress = lists_progress parts w (w.requests ++ p ∷ []) w.replies awake.progress;
        })

-- ---- the power stops
pub none_some_op : (op : Operation) → None ≡ Some op → ⊥
none_some_op op e = absurd (cc)

op_same : (a b : Operation) → Some a ≡ Some b → a ≡ b
op_same a b e = cc

stop_in : (parts : Parts) (w : World) (p : Packet) (op : Operation) (left : List ℕ) → operation_asked p ≡ Some op → IsStopped op w.content left → Before parts w.start w.tool p w.content
    → SafeWork parts w.tool.goal.work w.start left × Progressed parts (cut_off w left (Some op))
stop_in parts w p op left is stopped (AtOpen set d work deployable stage same_set count untold none same) = absurd (none_some_op op (sym none ∙ is))
stop_in parts w p op left is stopped (AtBanks set d work deployable stage same_set count untold command payload same) = absurd (none_some_op op (sym (banks_none p command) ∙ is))
stop_in parts w p op left is stopped (AtOperation set d i o work can stage same_set count plan untold nth asked same) =
    let the_same : o ≡ op = op_same o op (sym asked ∙ is) in
    let at : IsStopped o (content_after parts set w.start i) left =
    subst (λ (x : Operation). IsStopped x (content_after parts set w.start i) left) (sym the_same) (subst (λ (c : List ℕ). IsStopped op c left) same stopped) in
    (settled_safe parts w.start w.tool.goal.work w.tool.told (i + 3) left (Broken set i o work can untold refl nth at), AfterFailed set i o work nth at)
stop_in parts w p op left is stopped (Later later none done next steady) = absurd (none_some_op op (sym none ∙ is))

pub act_do : (a : Act) → is_do a ≡ true → a ≡ Do
act_do Do is = refl
act_do Resend is = absurd (true≢false (sym is))
act_do Ignore is = absurd (true≢false (sym is))

step_stop : (parts : Parts) (w : World) (i : ℕ) (left : List ℕ) (o : Option Packet) → Inv parts w → Awake parts w → MayLeave w i left → slice_get w.requests i ≡ o → Inv parts (stops w left o)
step_stop parts w i left None inv awake may got = inv
step_stop parts w i left (Some p) inv awake may got = by_do (is_do (act_on w.board p)) refl
  where
    by_operation : act_on w.board p ≡ Do → (o : Option Operation) → operation_asked p ≡ o → Inv parts (cut_off w left o)
    by_operation act None is = inv
    by_operation act (Some op) is =
        let open_one = is_open parts w i p awake act got in
        let stopped = may p got op is in
        let so = stop_in parts w p op left is stopped open_one.3 in
        record {
          size = stopped.size ∙ inv.size;
          bytes = bytes_stay op w.content left stopped inv.bytes;
          start_size = inv.start_size;
          start_bytes = inv.start_bytes;
          safe = so.0;
          progressed = so.1;
          awake = λ on. absurd (true≢false (sym on));
        }

    by_do : (b : Bool) → is_do (act_on w.board p) ≡ b → Inv parts (if b then cut_off w left (operation_asked p) else w)
    by_do true is = by_operation (act_do (act_on w.board p) is) (operation_asked p) refl
    by_do false is = inv

-- ---- the tool gets a reply
matches_number : (last : Option ℕ) (q r : Packet) → matches last q r ≡ true → r.reply_seq ≡ q.seq
unfolding matches
matches_number last q r is =
    let outer = and_parts ((r.flags == REPLY) && (r.command == q.command)) ((r.reply_seq == q.seq) && answers last q r.payload.items) is in
    eqb-true r.reply_seq q.seq (and_parts (r.reply_seq == q.seq) (answers last q r.payload.items) outer.1).0

awaited_by : (last : Option ℕ) (o : Option Packet) (r : Packet) → waiting_matches last o r ≡ true → (q : Packet) × (o ≡ Some q) × (r.reply_seq ≡ q.seq)
awaited_by last None r is = absurd (true≢false (sym is))
awaited_by last (Some q) r is = (q, refl, matches_number last q r is)

answered_by : (parts : Parts) (w : World) (r : Packet) (j : ℕ) → Awake parts w → slice_get w.replies j ≡ Some r → is_awaited w.tool.asking r ≡ true → Progress parts w
    → (w.board.last ≡ w.tool.asking.asked) × After parts w.start w.tool r.payload.items w.content
answered_by parts w r j awake got is (Waits q waiting seq last before) =
    let asked = awaited_by w.tool.asking.last_break w.tool.asking.waiting r is in
    let number : r.reply_seq ≡ w.tool.asking.asked = asked.2 ∙ ap (λ (x : Packet). x.seq) (some_same asked.0 q (sym asked.1 ∙ waiting)) ∙ seq in
    let h = awake.replies j r got in
    absurd (too_late w.tool.asking.asked w.board.last w.board.last (sym last) (subst (λ (n : ℕ). n ≤ w.board.last) number h) refl)
answered_by parts w r j awake got is (Answered q k waiting seq last kept done) =
    let asked = awaited_by w.tool.asking.last_break w.tool.asking.waiting r is in
    let number : r.reply_seq ≡ w.tool.asking.asked = asked.2 ∙ ap (λ (x : Packet). x.seq) (some_same asked.0 q (sym asked.1 ∙ waiting)) ∙ seq in
    let same : k ≡ r = some_same k r (sym kept ∙ awake.last j r got (number ∙ sym last)) in
    (last, subst (λ (x : Packet). After parts w.start w.tool x.payload.items w.content) same done)
answered_by parts w r j awake got is (Rests none last settled) =
    let asked = awaited_by w.tool.asking.last_break w.tool.asking.waiting r is in
    absurd (none_packet asked.0 (sym none ∙ asked.1))
  where
    none_packet : (x : Packet) → None ≡ Some x → ⊥
    none_packet x e = absurd (cc)

-- the same tool without its open request
abbrev closed : Tool → Packet → Tool
closed t r = record { asking = after_reply t.asking r; goal = t.goal; stage = t.stage; told = t.told; got = t.got }

closed_after : (parts : Parts) (start : List ℕ) (t : Tool) (r : Packet) (payload content : List ℕ) → After parts start t payload content → After parts start (closed t r) payload content
closed_after parts start t r payload content (OpenDone set d work deployable stage same_set count untold same) = OpenDone set d work deployable stage same_set count untold same
closed_after parts start t r payload content (BanksDone set d work deployable stage same_set count untold told same) = BanksDone set d work deployable stage same_set count untold told same
closed_after parts start t r payload content (OperationDone set d i op work can stage same_set count plan untold nth done same) = OperationDone set d i op work can stage same_set count plan untold nth done same
closed_after parts start t r payload content (OperationFailed set d i op work can stage count untold nth failure stopped) = OperationFailed set d i op work can stage count untold nth failure stopped
closed_after parts start t r payload content (LaterDone later settled) = LaterDone later settled

abbrev with_tool : World → Tool → World
with_tool w t = record { content = w.content; on = w.on; board = w.board; text = w.text; tool = t; requests = w.requests; replies = w.replies; start = w.start }

above : (a b : ℕ) → a ≤ b → a ≡ b + 1 → ⊥
above a b low e = omega arith

went : (parts : Parts) (w : World) (t : Tool) → Inv parts w → Awake parts w → w.board.last ≡ w.tool.asking.asked → Goes parts w.start w.tool.goal w.tool.asking.asked t w.content → Inv parts (with_tool w t)
went parts w t inv awake last goes =
    inv_awake parts (with_tool w t) inv.size inv.bytes inv.start_size inv.start_bytes
    (elim goes.1 [
      | inl on ↦
          record {
            requests = λ i p got. let h = awake.requests i p got in let g = on.now in omega arith;
            newest = λ i p got now q waiting. absurd (above p.seq w.tool.asking.asked (awake.requests i p got) (now ∙ on.now));
            replies = awake.replies;
            last = awake.last;
            kept = awake.kept;
            progress = Waits on.packet on.waiting (on.number ∙ sym on.now) (ap (λ (n : ℕ). n + 1) last ∙ sym on.now) on.before;
          }
      | inr rest ↦
          record {
            requests = λ i p got. let h = awake.requests i p got in let g = rest.now in omega arith;
            newest = λ i p got now q waiting. absurd (none_packet q (sym rest.waiting ∙ waiting));
            replies = awake.replies;
            last = awake.last;
            kept = awake.kept;
            progress = Rests rest.waiting (last ∙ sym rest.now) (subst (λ (n : ℕ). Settled parts w.start t.goal.work t.told n w.content) (sym last) rest.settled);
          }
    ])
  where
    none_packet : (x : Packet) → None ≡ Some x → ⊥
    none_packet x e = absurd (cc)

step_tool : (parts : Parts) (w : World) (j : ℕ) (o : Option Packet) → IsFormat parts.format → Inv parts w → Awake parts w → slice_get w.replies j ≡ o → Inv parts (to_tool w o)
step_tool parts w j None format inv awake got = inv
step_tool parts w j (Some r) format inv awake got = by_match (is_awaited w.tool.asking r) refl
  where
    by_match : (b : Bool) → is_awaited w.tool.asking r ≡ b → Inv parts (if b then with_tool w (takes w.tool r) else w)
    by_match true is =
        let answered = answered_by parts w r j awake got is awake.progress in
        went parts w (takes w.tool r) inv awake answered.0
        (advances parts w.start (closed w.tool r) r.payload.items w.content format inv.start_size inv.start_bytes
        (ap (λ (b : Bool). if b then None else w.tool.asking.waiting) is)
        (closed_after parts w.start w.tool r r.payload.items w.content answered.1))
    by_match false is = inv

-- ---- a session begins
began : (parts : Parts) (w : World) (t : Tool) → length w.content ≡ 262144 → AreBytes w.content → (p : Packet) → t.asking.waiting ≡ Some p → p.seq ≡ t.asking.asked → t.asking.asked ≡ 1 → Before parts w.content t p w.content
    → Inv parts (record { content = w.content; on = true; board = nothing_done; text = []; tool = t; requests = []; replies = []; start = w.content })
began parts w t size bytes p waiting seq one before =
    inv_awake parts (record { content = w.content; on = true; board = nothing_done; text = []; tool = t; requests = []; replies = []; start = w.content }) size bytes size bytes
    (record {
      requests = λ i x got. absurd (none_packet x got);
      newest = λ i x got now q is. absurd (none_packet x got);
      replies = λ j x got. absurd (none_packet x got);
      last = λ j x got now. absurd (none_packet x got);
      kept = λ x is. absurd (none_packet x is);
      progress = Waits p waiting seq (sym one) before;
    })
  where
    none_packet : (x : Packet) → None ≡ Some x → ⊥
    none_packet x e = absurd (cc)

step_begin : (parts : Parts) (w : World) (g : Goal) (work : Work) → g.work ≡ work → length w.content ≡ 262144 → AreBytes w.content → FitsWork parts work
    → Inv parts (record { content = w.content; on = true; board = nothing_done; text = []; tool = opens g work; requests = []; replies = []; start = w.content })
unfolding next_of
step_begin parts w g (DeploysAndRuns set) is size bytes fits =
    began parts w (opens g (DeploysAndRuns set)) size bytes (next_request (blank g).asking OPEN []) refl refl refl
    (AtOpen set (record { set = set; asked = 1; plan = no_plan }) is fits refl refl (refl, refl) refl (no_open (blank g) []) refl)
step_begin parts w g OnlyRuns is size bytes fits =
    began parts w (opens g OnlyRuns) size bytes (next_request (blank g).asking OPEN []) refl refl refl
    (Later tt (no_open (blank g) []) 0 refl (Unwritten is refl refl))

-- ---- every event
pub step : (parts : Parts) (w : World) (e : Event) → IsFormat parts.format → Inv parts w → IsPossible parts w e → Inv parts (happens parts w e)
unfolding happens
step parts w Send format inv possible = by_power w.on refl
  where
    by_power : (b : Bool) → w.on ≡ b → Inv parts (if b then with_lists w (sent w.requests w.tool.asking.waiting) w.replies else w)
    by_power true is = step_send parts w inv (inv.awake is)
    by_power false is = inv
step parts w (ToBoard i outcome) format inv possible = by_power w.on refl
  where
    by_power : (b : Bool) → w.on ≡ b → Inv parts (if b then to_board parts w outcome (slice_get w.requests i) else w)
    by_power true is = step_board parts w i outcome (slice_get w.requests i) inv (inv.awake is) possible refl
    by_power false is = inv
step parts w (Stop i left) format inv possible = by_power w.on refl
  where
    by_power : (b : Bool) → w.on ≡ b → Inv parts (if b then stops w left (slice_get w.requests i) else w)
    by_power true is = step_stop parts w i left (slice_get w.requests i) inv (inv.awake is) possible refl
    by_power false is = inv
step parts w (ToTool j) format inv possible = by_power w.on refl
  where
    by_power : (b : Bool) → w.on ≡ b → Inv parts (if b then to_tool w (slice_get w.replies j) else w)
    by_power true is = step_tool parts w j (slice_get w.replies j) format inv (inv.awake is) refl
    by_power false is = inv
step parts w (Begin g) format inv possible = step_begin parts w g g.work refl inv.size inv.bytes possible

-- ---- every list of events
runs : (parts : Parts) (es : List Event) (w : World) → IsFormat parts.format → Inv parts w → ArePossible parts w es → Inv parts (run parts es w)
runs parts [] w format inv possible = inv
runs parts (e ∷ es) w format inv possible = runs parts es (happens parts w e) format (step parts w e format inv possible.0) possible.1

pub asleep_inv : (parts : Parts) (content : List ℕ) → length content ≡ 262144 → AreBytes content → Inv parts (asleep content)
asleep_inv parts content size bytes =
    record {
      size = size;
      bytes = bytes;
      start_size = size;
      start_bytes = bytes;
      safe = refl;
      progressed = Untouched refl;
      awake = λ on. absurd (true≢false (sym on));
    }

no_more : (parts : Parts) (w : World) → Progress parts w → w.board.last ≤ w.tool.asking.asked
no_more parts w (Waits p waiting seq last before) = omega arith
no_more parts w (Answered p r waiting seq last kept done) = omega arith
no_more parts w (Rests none last settled) = omega arith

one_less : (parts : Parts) (w : World) → Progress parts w → w.tool.asking.asked ≤ w.board.last + 1
one_less parts w (Waits p waiting seq last before) = omega arith
one_less parts w (Answered p r waiting seq last kept done) = omega arith
one_less parts w (Rests none last settled) = omega arith

pub sound : (parts : Parts) (content : List ℕ) (es : List Event) → IsFormat parts.format → length content ≡ 262144 → AreBytes content → ArePossible parts (asleep content) es → IsSound parts (run parts es (asleep content))
sound parts content es format size bytes possible =
    let inv = runs parts es (asleep content) format (asleep_inv parts content size bytes) possible in
    let w = run parts es (asleep content) in
    record {
      safe = inv.safe;
      progressed = inv.progressed;
      no_more = λ on. no_more parts w (inv.awake on).progress;
      one_less = λ on. one_less parts w (inv.awake on).progress;
      done = λ on. settled_done parts w (settled_of parts w (inv.awake on).progress);
      told = λ on told. settled_told parts w.start w.tool.goal.work w.tool.told w.board.last w.content (settled_of parts w (inv.awake on).progress) told;
    }

-- what a stop of the operation that is done may leave is safe
pub safe_left : (parts : Parts) (content : List ℕ) (es : List Event) → IsFormat parts.format → length content ≡ 262144 → AreBytes content → ArePossible parts (asleep content) es
    → (run parts es (asleep content)).on ≡ true → (i : ℕ) (p : Packet) (op : Operation) → slice_get (run parts es (asleep content)).requests i ≡ Some p → act_on (run parts es (asleep content)).board p ≡ Do → operation_asked p ≡ Some op
    → (left : List ℕ) → IsStopped op (run parts es (asleep content)).content left → SafeWork parts (run parts es (asleep content)).tool.goal.work (run parts es (asleep content)).start left
safe_left parts content es format size bytes possible on i p op got act asked left stopped =
    let w = run parts es (asleep content) in
    let inv = runs parts es (asleep content) format (asleep_inv parts content size bytes) possible in
    (stop_in parts w p op left asked stopped (is_open parts w i p (inv.awake on) act got).3).0
