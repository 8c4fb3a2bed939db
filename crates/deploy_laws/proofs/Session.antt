-- Every event keeps what the laws promise.
use Rattle.std.proofs.Common.{◌≡◌, ◌⊎◌, ℕ, ◌+◌, ◌-◌, ◌≤◌, Bool, true, false, List, [], ◌∷◌, ◌++◌, length, drop, Option, Some, None, refl, sym, ap, subst, ◌∙◌, inl, inr, arith}
use Rattle.std.specs.Prelude.{slice_index, slice_get, if◌then◌else◌, ◌==◌, nat_lt}
use Rattle.std.proofs.lemmas.Bool.{ne_eqb, true≢false}
use Rattle.flash_trait.specs.Flash.{Operation, AreBytes, IsStopped}
use Rattle.wire_packets.specs.declared.packet.Packet.{Packet}
use Rattle.wire_packets.specs.declared.command.TheConstants.{OPEN, BANKS, RUN, FETCH, CLOSE, DONE, FLASH_FAILED, NO_MEMORY}
use Rattle.wire_session.specs.Asking.{next_request}
use Rattle.deploy_model.specs.Banks.{IsFormat, found, set_in}
use Rattle.deploy_model.specs.Deployment.{Plan, plan_for, Banks, banks, banks_bytes, banks_told, is_spent, operations, after_all, Deploying, Asks, HasFailed, IsSpent, next_of, asks_nth, asks_operation, asks_planned, asks_told, TOLD_SIZE, command_of, payload_of}
use Rattle.deploy_model.specs.Moments.{IsDeployable, Safe, Old}
use Rattle.deploy_model.specs.Board.{Parts, operation_asked}
use Rattle.deploy_model.specs.Tool.{Work, DeploysAndRuns, OnlyRuns, Goal, Finish, HasRun, FlashFailed, NumbersSpent, NoMemory, Stage, Deploys, Opens, Runs, Fetches, Closes, IsOver, Tool, text_length, fetches, fetch_payload, run_payload, asks, is_over, on_next, on_stage, advanced}
use Rattle.deploy_model.specs.World.{World}
use Rattle.deploy_model.specs.Promise.{plan_at, SafeWork, IsFoundNew, content_after, Progressed}
use Rattle.deploy_laws.proofs.Asked.{asked_back, nth_askable, last_content, through_at, through_stop, through_end}
use Rattle.deploy_laws.proofs.Counts.{get_outside}
use Rattle.deploy_laws.proofs.Told.{banks_back}
use Rattle.deploy_laws.proofs.Whole.{safe_all}

-- ---- a session that deploys
-- its premises
pub record CanDeploy (parts : Parts) (start set : List ℕ) : Type 0 where
  pub format : IsFormat parts.format
  pub size : length start ≡ 262144
  pub bytes : AreBytes start
  pub deployable : IsDeployable parts.format set
  pub unspent : is_spent (banks parts.format start) ≡ false

abbrev pub ops : Parts → List ℕ → List ℕ → List Operation
ops parts start set = operations (plan_at parts start) set

pub safe_before : (parts : Parts) (start set : List ℕ) → CanDeploy parts start set → (i : ℕ) → Safe parts.format start set (plan_at parts start).target (content_after parts set start i)
safe_before parts start set can i =
    through_at (Safe parts.format start set (plan_at parts start).target) (ops parts start set) start (safe_all parts.format set start can.format can.deployable can.size can.unspent).0 i

pub safe_stop : (parts : Parts) (start set : List ℕ) → CanDeploy parts start set → (i : ℕ) (op : Operation) → slice_get (ops parts start set) i ≡ Some op
    → (d : List ℕ) → IsStopped op (content_after parts set start i) d → Safe parts.format start set (plan_at parts start).target d
safe_stop parts start set can i op is d stopped =
    through_stop (Safe parts.format start set (plan_at parts start).target) (ops parts start set) start (safe_all parts.format set start can.format can.deployable can.size can.unspent).0 i op is d stopped

found_end : (parts : Parts) (start set : List ℕ) → CanDeploy parts start set → found parts.format (after_all (ops parts start set) start) ≡ set_in parts.format (plan_at parts start).target set
found_end parts start set can = (safe_all parts.format set start can.format can.deployable can.size can.unspent).1

-- ---- where a session is
-- the stage deploys no more
abbrev pub IsLater : Stage → Type 0
IsLater (Deploys d) = ⊥
IsLater Opens = Unit {0}
IsLater Runs = Unit {0}
IsLater (Fetches end) = Unit {0}
IsLater (Closes end) = Unit {0}
IsLater (IsOver finish end) = Unit {0}

-- what the content is once no operation is asked for any more, after so many requests
pub data Steady (parts : Parts) (start : List ℕ) (work : Work) (told : Bool) (done : ℕ) (content : List ℕ) : Type 0 where
  Unwritten : work ≡ OnlyRuns → content ≡ start → told ≡ false → Steady parts start work told done content
  Complete : (set : List ℕ) → work ≡ DeploysAndRuns set → CanDeploy parts start set → length (ops parts start set) + 2 ≤ done → content ≡ after_all (ops parts start set) start → Steady parts start work told done content

-- what the content is where a session may rest, after so many requests
pub data Settled (parts : Parts) (start : List ℕ) (work : Work) (told : Bool) (done : ℕ) (content : List ℕ) : Type 0 where
  NeverTouched : done ≤ 2 → content ≡ start → told ≡ false → Settled parts start work told done content
  Steadily : Steady parts start work told done content → Settled parts start work told done content
  Halted : (set : List ℕ) (i : ℕ) → work ≡ DeploysAndRuns set → CanDeploy parts start set → told ≡ false → done ≡ i + 2 → content ≡ content_after parts set start i → Settled parts start work told done content
  Broken : (set : List ℕ) (i : ℕ) (op : Operation) → work ≡ DeploysAndRuns set → CanDeploy parts start set → told ≡ false → done ≡ i + 3 → slice_get (ops parts start set) i ≡ Some op
      → IsStopped op (content_after parts set start i) content → Settled parts start work told done content

-- the deployment and the tool's end of the session count the same requests
abbrev pub Counts : Deploying → Tool → ℕ → Type 0
Counts d t n = (d.asked ≡ n) × (t.asking.asked ≡ n)

-- before the open request p is done
pub data Before (parts : Parts) (start : List ℕ) (t : Tool) (p : Packet) (content : List ℕ) : Type 0 where
  AtOpen : (set : List ℕ) (d : Deploying) → t.goal.work ≡ DeploysAndRuns set → IsDeployable parts.format set → t.stage ≡ Deploys d → d.set ≡ set → Counts d t 1 → t.told ≡ false
      → operation_asked p ≡ None → content ≡ start → Before parts start t p content
  AtBanks : (set : List ℕ) (d : Deploying) → t.goal.work ≡ DeploysAndRuns set → IsDeployable parts.format set → t.stage ≡ Deploys d → d.set ≡ set → Counts d t 2 → t.told ≡ false
      → p.command ≡ BANKS → p.payload.items ≡ [] → content ≡ start → Before parts start t p content
  AtOperation : (set : List ℕ) (d : Deploying) (i : ℕ) (op : Operation) → t.goal.work ≡ DeploysAndRuns set → CanDeploy parts start set → t.stage ≡ Deploys d → d.set ≡ set → Counts d t (i + 3) → d.plan ≡ plan_at parts start → t.told ≡ false
      → slice_get (ops parts start set) i ≡ Some op → operation_asked p ≡ Some op → content ≡ content_after parts set start i → Before parts start t p content
  Later : IsLater t.stage → operation_asked p ≡ None → (done : ℕ) → done + 1 ≡ t.asking.asked → Steady parts start t.goal.work t.told done content → Before parts start t p content

-- after it is done, with the payload of its reply
pub data After (parts : Parts) (start : List ℕ) (t : Tool) (payload content : List ℕ) : Type 0 where
  OpenDone : (set : List ℕ) (d : Deploying) → t.goal.work ≡ DeploysAndRuns set → IsDeployable parts.format set → t.stage ≡ Deploys d → d.set ≡ set → Counts d t 1 → t.told ≡ false
      → content ≡ start → After parts start t payload content
  BanksDone : (set : List ℕ) (d : Deploying) → t.goal.work ≡ DeploysAndRuns set → IsDeployable parts.format set → t.stage ≡ Deploys d → d.set ≡ set → Counts d t 2 → t.told ≡ false
      → payload ≡ DONE ∷ banks_bytes (banks parts.format start) → content ≡ start → After parts start t payload content
  OperationDone : (set : List ℕ) (d : Deploying) (i : ℕ) (op : Operation) → t.goal.work ≡ DeploysAndRuns set → CanDeploy parts start set → t.stage ≡ Deploys d → d.set ≡ set → Counts d t (i + 3) → d.plan ≡ plan_at parts start → t.told ≡ false
      → slice_get (ops parts start set) i ≡ Some op → payload ≡ DONE ∷ [] → content ≡ content_after parts set start (i + 1) → After parts start t payload content
  OperationFailed : (set : List ℕ) (d : Deploying) (i : ℕ) (op : Operation) → t.goal.work ≡ DeploysAndRuns set → CanDeploy parts start set → t.stage ≡ Deploys d → Counts d t (i + 3) → t.told ≡ false
      → slice_get (ops parts start set) i ≡ Some op → payload ≡ FLASH_FAILED ∷ [] → IsStopped op (content_after parts set start i) content → After parts start t payload content
  LaterDone : IsLater t.stage → Steady parts start t.goal.work t.told t.asking.asked content → After parts start t payload content

pub data Progress (parts : Parts) (w : World) : Type 0 where
  -- the open request isn't done
  Waits : (p : Packet) → w.tool.asking.waiting ≡ Some p → p.seq ≡ w.tool.asking.asked → w.board.last + 1 ≡ w.tool.asking.asked → Before parts w.start w.tool p w.content → Progress parts w
  -- it is done
  Answered : (p r : Packet) → w.tool.asking.waiting ≡ Some p → p.seq ≡ w.tool.asking.asked → w.board.last ≡ w.tool.asking.asked → w.board.kept ≡ Some r
      → After parts w.start w.tool r.payload.items w.content → Progress parts w
  -- nothing is asked any more
  Rests : w.tool.asking.waiting ≡ None → w.board.last ≡ w.tool.asking.asked → Settled parts w.start w.tool.goal.work w.tool.told w.board.last w.content → Progress parts w

pub record Awake (parts : Parts) (w : World) : Type 0 where
  pub requests : (i : ℕ) (p : Packet) → slice_get w.requests i ≡ Some p → p.seq ≤ w.tool.asking.asked
  pub newest : (i : ℕ) (p : Packet) → slice_get w.requests i ≡ Some p → p.seq ≡ w.tool.asking.asked → (q : Packet) → w.tool.asking.waiting ≡ Some q → p ≡ q
  pub replies : (j : ℕ) (r : Packet) → slice_get w.replies j ≡ Some r → r.reply_seq ≤ w.board.last
  pub last : (j : ℕ) (r : Packet) → slice_get w.replies j ≡ Some r → r.reply_seq ≡ w.board.last → w.board.kept ≡ Some r
  pub kept : (r : Packet) → w.board.kept ≡ Some r → r.reply_seq ≡ w.board.last
  pub progress : Progress parts w

pub record Inv (parts : Parts) (w : World) : Type 0 where
  pub size : length w.content ≡ 262144
  pub bytes : AreBytes w.content
  pub start_size : length w.start ≡ 262144
  pub start_bytes : AreBytes w.start
  pub safe : SafeWork parts w.tool.goal.work w.start w.content
  pub progressed : Progressed parts w
  pub awake : w.on ≡ true → Awake parts w

-- ---- what is settled is safe
pub safe_work : (parts : Parts) (work : Work) (start content : List ℕ) → content ≡ start → SafeWork parts work start content
safe_work parts (DeploysAndRuns set) start content same = Old (ap (found parts.format) same)
safe_work parts OnlyRuns start content same = same

by_work : (parts : Parts) (work : Work) (set start content : List ℕ) → work ≡ DeploysAndRuns set → Safe parts.format start set (plan_at parts start).target content → SafeWork parts work start content
by_work parts work set start content is safe = subst (λ (x : Work). SafeWork parts x start content) (sym is) safe

steady_safe : (parts : Parts) (start : List ℕ) (work : Work) (told : Bool) (done : ℕ) (content : List ℕ) → Steady parts start work told done content → SafeWork parts work start content
steady_safe parts start work told done content (Unwritten is same untold) = safe_work parts work start content same
steady_safe parts start work told done content (Complete set is can many same) =
    by_work parts work set start content is
    (subst (λ (c : List ℕ). Safe parts.format start set (plan_at parts start).target c) (sym same)
    (through_end (Safe parts.format start set (plan_at parts start).target) (ops parts start set) start (safe_all parts.format set start can.format can.deployable can.size can.unspent).0))

pub settled_safe : (parts : Parts) (start : List ℕ) (work : Work) (told : Bool) (done : ℕ) (content : List ℕ) → Settled parts start work told done content → SafeWork parts work start content
settled_safe parts start work told done content (NeverTouched few same untold) = safe_work parts work start content same
settled_safe parts start work told done content (Steadily steady) = steady_safe parts start work told done content steady
settled_safe parts start work told done content (Halted set i is can untold count same) =
    by_work parts work set start content is (subst (λ (c : List ℕ). Safe parts.format start set (plan_at parts start).target c) (sym same) (safe_before parts start set can i))
settled_safe parts start work told done content (Broken set i op is can untold count nth stopped) = by_work parts work set start content is (safe_stop parts start set can i op nth content stopped)

steady_told : (parts : Parts) (start : List ℕ) (work : Work) (told : Bool) (done : ℕ) (content : List ℕ) → Steady parts start work told done content → told ≡ true → IsFoundNew parts work start content
steady_told parts start work told done content (Unwritten is same untold) told_so = absurd (true≢false (sym told_so ∙ untold))
steady_told parts start work told done content (Complete set is can many same) told_so =
    subst (λ (x : Work). IsFoundNew parts x start content) (sym is) (ap (found parts.format) same ∙ found_end parts start set can)

pub settled_told : (parts : Parts) (start : List ℕ) (work : Work) (told : Bool) (done : ℕ) (content : List ℕ) → Settled parts start work told done content → told ≡ true → IsFoundNew parts work start content
settled_told parts start work told done content (NeverTouched few same untold) told_so = absurd (true≢false (sym told_so ∙ untold))
settled_told parts start work told done content (Steadily steady) told_so = steady_told parts start work told done content steady told_so
settled_told parts start work told done content (Halted set i is can untold count same) told_so = absurd (true≢false (sym told_so ∙ untold))
settled_told parts start work told done content (Broken set i op is can untold count nth stopped) told_so = absurd (true≢false (sym told_so ∙ untold))

-- ---- the tool takes the reply that it awaits
-- what the tool is afterwards, by its content: it asks the next request, or rests
pub record Asking_on (parts : Parts) (start : List ℕ) (asked : ℕ) (new : Tool) (content : List ℕ) : Type 0 where
  pub packet : Packet
  pub waiting : new.asking.waiting ≡ Some packet
  pub number : packet.seq ≡ asked + 1
  pub now : new.asking.asked ≡ asked + 1
  pub before : Before parts start new packet content

pub record Resting (parts : Parts) (start : List ℕ) (asked : ℕ) (new : Tool) (content : List ℕ) : Type 0 where
  pub waiting : new.asking.waiting ≡ None
  pub now : new.asking.asked ≡ asked
  pub settled : Settled parts start new.goal.work new.told asked content

abbrev pub Goes : Parts → List ℕ → Goal → ℕ → Tool → List ℕ → Type 0
Goes parts start goal asked new content = (new.goal ≡ goal) × (Asking_on parts start asked new content ⊎ Resting parts start asked new content)

-- a tool that asks at a later stage
asks_later : (parts : Parts) (start : List ℕ) (t : Tool) (stage : Stage) (command : ℕ) (payload content : List ℕ) → IsLater stage
    → operation_asked (next_request t.asking command payload) ≡ None → Steady parts start t.goal.work t.told t.asking.asked content → Goes parts start t.goal t.asking.asked (asks t stage command payload) content
asks_later parts start t stage command payload content later none steady =
    (refl, inl (record { packet = next_request t.asking command payload; waiting = refl; number = refl; now = refl; before = Later later none t.asking.asked refl steady }))

rests : (parts : Parts) (start : List ℕ) (t : Tool) (finish : Finish) (end content : List ℕ) → t.asking.waiting ≡ None → Settled parts start t.goal.work t.told t.asking.asked content → Goes parts start t.goal t.asking.asked (is_over t finish end) content
rests parts start t finish end content none settled = (refl, inr (record { waiting = none; now = refl; settled = settled }))

no_run : (t : Tool) (payload : List ℕ) → operation_asked (next_request t.asking RUN payload) ≡ None
unfolding operation_asked
no_run t payload = refl

no_fetch : (t : Tool) (payload : List ℕ) → operation_asked (next_request t.asking FETCH payload) ≡ None
unfolding operation_asked
no_fetch t payload = refl

no_close : (t : Tool) (payload : List ℕ) → operation_asked (next_request t.asking CLOSE payload) ≡ None
unfolding operation_asked
no_close t payload = refl

pub no_open : (t : Tool) (payload : List ℕ) → operation_asked (next_request t.asking OPEN payload) ≡ None
unfolding operation_asked
no_open t payload = refl

fetches_on : (parts : Parts) (start : List ℕ) (t : Tool) (end content : List ℕ) → Steady parts start t.goal.work t.told t.asking.asked content → Goes parts start t.goal t.asking.asked (fetches t end) content
fetches_on parts start t end content settled = by_length (nat_lt (length t.got) (text_length end))
  where
    by_length : (b : Bool) → Goes parts start t.goal t.asking.asked (if b then asks t (Fetches end) FETCH (fetch_payload end (length t.got)) else asks t (Closes end) CLOSE []) content
    by_length true = asks_later parts start t (Fetches end) FETCH (fetch_payload end (length t.got)) content tt (no_fetch t (fetch_payload end (length t.got))) settled
    by_length false = asks_later parts start t (Closes end) CLOSE [] content tt (no_close t []) settled

later_on : (parts : Parts) (start : List ℕ) (t : Tool) (payload content : List ℕ) (stage : Stage) → t.asking.waiting ≡ None → IsLater stage → t.stage ≡ stage → Steady parts start t.goal.work t.told t.asking.asked content
    → Goes parts start t.goal t.asking.asked (on_stage t payload stage) content
later_on parts start t payload content (Deploys d) none later is settled = absurd later
later_on parts start t payload content Opens none later is settled = asks_later parts start t Runs RUN (run_payload t.goal) content tt (no_run t (run_payload t.goal)) settled
later_on parts start t payload content Runs none later is settled = fetches_on parts start t payload content settled
later_on parts start t payload content (Fetches end) none later is settled =
    fetches_on parts start (record { asking = t.asking; goal = t.goal; stage = t.stage; told = t.told; got = t.got ++ drop 1 payload }) end content settled
later_on parts start t payload content (Closes end) none later is settled = rests parts start t HasRun end content none (Steadily settled)
later_on parts start t payload content (IsOver finish end) none later is settled = (refl, inr (record { waiting = none; now = refl; settled = Steadily settled }))

-- ---- a deployment goes on
pub some_same : {X : Type 0} (x y : X) → Some x ≡ Some y → x ≡ y
some_same x y e = cc

-- the i-th operation is asked for, or the deployment is told as done
nth_on : (parts : Parts) (start : List ℕ) (t : Tool) (set : List ℕ) (d : Deploying) (i : ℕ) (content : List ℕ) (o : Option Operation) → t.asking.waiting ≡ None → t.goal.work ≡ DeploysAndRuns set → CanDeploy parts start set
    → d.set ≡ set → Counts d t (i + 2) → d.plan ≡ plan_at parts start → t.told ≡ false → slice_get (ops parts start set) i ≡ o → content ≡ content_after parts set start i
    → (plan_at parts start).target ≤ 1 → Goes parts start t.goal t.asking.asked (on_next t (asks_operation d o)) content
nth_on parts start t set d i content None none work can same_set count plan untold nth same small =
    asks_later parts start (record { asking = t.asking; goal = t.goal; stage = t.stage; told = true; got = t.got }) Runs RUN (run_payload t.goal) content tt (no_run t (run_payload t.goal))
    (Complete set work can (let h = get_outside (ops parts start set) i nth in let e = count.1 in omega arith) (same ∙ last_content (ops parts start set) i start nth))
nth_on parts start t set d i content (Some op) none work can same_set count plan untold nth same small = (
  refl,
  inl (record {
    packet = next_request t.asking (command_of op) (payload_of op);
    waiting = refl;
    number = refl;
    now = refl;
    before =
        AtOperation set (record { set = d.set; asked = d.asked + 1; plan = d.plan }) i op work can refl same_set (let e = count.0 in omega arith, let e = count.1 in omega arith) plan untold nth
        (asked_back op (t.asking.asked + 1) (nth_askable (plan_at parts start) set small can.deployable.room i op nth)) same;
  }),
)

not_failed : (x : ℕ) (b : Bool) → (x == FLASH_FAILED) ≡ b → x ≡ DONE → b ≡ false
not_failed x b is done = sym is ∙ ap (λ (n : ℕ). n == FLASH_FAILED) done

pub target_small : (b : Banks) → (plan_for b).target ≤ 1
target_small b = by_kind (b.kind == 0) (b.kind == 3)
  where
    by_kind : (x y : Bool) → (if x then 0 else (if y then 1 - b.bank else 1)) ≤ 1
    by_kind true y = omega arith
    by_kind false true = omega arith
    by_kind false false = omega arith

open_on : (parts : Parts) (start : List ℕ) (t : Tool) (payload content : List ℕ) (set : List ℕ) (d : Deploying) → t.asking.waiting ≡ None → t.goal.work ≡ DeploysAndRuns set → IsDeployable parts.format set
    → d.set ≡ set → Counts d t 1 → t.told ≡ false → content ≡ start → Goes parts start t.goal t.asking.asked (on_next t (next_of d (Some payload))) content
unfolding next_of
open_on parts start t payload content set d none work deployable same_set one untold same = failed (slice_index payload 0 == FLASH_FAILED)
  where
    asked : (b : Bool) → (d.asked == 1) ≡ b → Goes parts start t.goal t.asking.asked (on_next t (if b then (Asks BANKS [], record { set = d.set; asked = 2; plan = d.plan }) else (if d.asked == 2 then asks_told d payload else asks_nth d (d.asked - 2)))) content
    asked true is = (
      refl,
      inl (record {
        packet = next_request t.asking BANKS [];
        waiting = refl;
        number = refl;
        now = refl;
        before = AtBanks set (record { set = d.set; asked = 2; plan = d.plan }) work deployable refl same_set (refl, let e = one.1 in omega arith) untold refl refl same;
      }),
    )
    asked false is = absurd (true≢false (sym (ap (λ (n : ℕ). n == 1) one.0) ∙ is))

    failed : (b : Bool) → Goes parts start t.goal t.asking.asked (on_next t (if b then (HasFailed, d) else (if d.asked == 1 then (Asks BANKS [], record { set = d.set; asked = 2; plan = d.plan }) else (if d.asked == 2 then asks_told d payload else asks_nth d (d.asked - 2))))) content
    failed true = rests parts start t FlashFailed [] content none (NeverTouched (let e = one.1 in omega arith) same untold)
    failed false = asked (d.asked == 1) refl

banks_on : (parts : Parts) (start : List ℕ) (t : Tool) (payload content : List ℕ) (set : List ℕ) (d : Deploying) → IsFormat parts.format → length start ≡ 262144 → AreBytes start
    → t.asking.waiting ≡ None → t.goal.work ≡ DeploysAndRuns set → IsDeployable parts.format set
    → d.set ≡ set → Counts d t 2 → t.told ≡ false → payload ≡ DONE ∷ banks_bytes (banks parts.format start) → content ≡ start → Goes parts start t.goal t.asking.asked (on_next t (next_of d (Some payload))) content
unfolding next_of
banks_on parts start t payload content set d format size bytes none work deployable same_set two untold told same = failed (slice_index payload 0 == FLASH_FAILED) refl
  where
    banks_known : banks_told payload ≡ banks parts.format start
    banks_known = ap banks_told told ∙ banks_back parts.format start bytes

    nth_known : (plan : Plan) → plan ≡ plan_at parts start → slice_get (operations plan d.set) 0 ≡ slice_get (ops parts start set) 0
    nth_known plan is = ap (λ (p : Plan). slice_get (operations p d.set) 0) is ∙ ap (λ (x : List ℕ). slice_get (operations (plan_at parts start) x) 0) same_set

    planned : (b : Bool) → is_spent (banks_told payload) ≡ b
        → Goes parts start t.goal t.asking.asked (on_next t (if b then (IsSpent, d) else asks_nth (record { set = d.set; asked = d.asked; plan = plan_for (banks_told payload) }) 0)) content
    planned true is = rests parts start t NumbersSpent [] content none (NeverTouched (let e = two.1 in omega arith) same untold)
    planned false is =
        nth_on parts start t set (record { set = d.set; asked = d.asked; plan = plan_for (banks_told payload) }) 0 content (slice_get (operations (plan_for (banks_told payload)) d.set) 0)
        none work (record { format = format; size = size; bytes = bytes; deployable = deployable; unspent = sym (ap is_spent banks_known) ∙ is })
        same_set two (ap plan_for banks_known) untold (sym (nth_known (plan_for (banks_told payload)) (ap plan_for banks_known))) same (target_small (banks parts.format start))

    told_whole : (b : Bool) → b ≡ true → Goes parts start t.goal t.asking.asked (on_next t (if b then asks_planned d (banks_told payload) else (HasFailed, d))) content
    told_whole true is = planned (is_spent (banks_told payload)) refl
    told_whole false is = absurd (true≢false (sym is))

    asked_two : (b : Bool) → (d.asked == 2) ≡ b → Goes parts start t.goal t.asking.asked (on_next t (if b then asks_told d payload else asks_nth d (d.asked - 2))) content
    asked_two true is = told_whole (length payload == TOLD_SIZE) (ap (λ (xs : List ℕ). length xs == TOLD_SIZE) told)
    asked_two false is = absurd (true≢false (sym (ap (λ (n : ℕ). n == 2) two.0) ∙ is))

    asked : (b : Bool) → (d.asked == 1) ≡ b → Goes parts start t.goal t.asking.asked (on_next t (if b then (Asks BANKS [], record { set = d.set; asked = 2; plan = d.plan }) else (if d.asked == 2 then asks_told d payload else asks_nth d (d.asked - 2)))) content
    asked true is = absurd (true≢false (sym is ∙ ap (λ (n : ℕ). n == 1) two.0))
    asked false is = asked_two (d.asked == 2) refl

    failed : (b : Bool) → (slice_index payload 0 == FLASH_FAILED) ≡ b → Goes parts start t.goal t.asking.asked (on_next t (if b then (HasFailed, d) else (if d.asked == 1 then (Asks BANKS [], record { set = d.set; asked = 2; plan = d.plan }) else (if d.asked == 2 then asks_told d payload else asks_nth d (d.asked - 2))))) content
    failed true is = rests parts start t FlashFailed [] content none (NeverTouched (let e = two.1 in omega arith) same untold)
    failed false is = asked (d.asked == 1) refl

-- behind the i-th operation, done or failed
not_one : (n i : ℕ) → n ≡ i + 3 → (n == 1) ≡ false
not_one n i e = ne_eqb n 1 (λ h. omega arith)

not_two : (n i : ℕ) → n ≡ i + 3 → (n == 2) ≡ false
not_two n i e = ne_eqb n 2 (λ h. omega arith)

operation_on : (parts : Parts) (start : List ℕ) (t : Tool) (payload content : List ℕ) (set : List ℕ) (d : Deploying) (i : ℕ) → t.asking.waiting ≡ None → t.goal.work ≡ DeploysAndRuns set → CanDeploy parts start set
    → d.set ≡ set → Counts d t (i + 3) → d.plan ≡ plan_at parts start → t.told ≡ false → payload ≡ DONE ∷ [] → content ≡ content_after parts set start (i + 1)
    → Goes parts start t.goal t.asking.asked (on_next t (next_of d (Some payload))) content
unfolding next_of
operation_on parts start t payload content set d i none work can same_set count plan untold done same = failed (slice_index payload 0 == FLASH_FAILED) refl
  where
    place : d.asked - 2 ≡ i + 1
    place = let e = count.0 in omega arith

    nth : slice_get (ops parts start set) (i + 1) ≡ slice_get (operations d.plan d.set) (d.asked - 2)
    nth = sym (ap (λ (p : Plan). slice_get (operations p d.set) (d.asked - 2)) plan ∙ ap (λ (x : List ℕ). slice_get (operations (plan_at parts start) x) (d.asked - 2)) same_set ∙ ap (λ (n : ℕ). slice_get (ops parts start set) n) place)

    asked_two : (b : Bool) → (d.asked == 2) ≡ b → Goes parts start t.goal t.asking.asked (on_next t (if b then asks_told d payload else asks_nth d (d.asked - 2))) content
    asked_two true is = absurd (true≢false (sym is ∙ not_two d.asked i count.0))
    asked_two false is =
        nth_on parts start t set d (i + 1) content (slice_get (operations d.plan d.set) (d.asked - 2)) none work can same_set (let e = count.0 in omega arith, let e = count.1 in omega arith) plan untold nth same (target_small (banks parts.format start))

    asked : (b : Bool) → (d.asked == 1) ≡ b → Goes parts start t.goal t.asking.asked (on_next t (if b then (Asks BANKS [], record { set = d.set; asked = 2; plan = d.plan }) else (if d.asked == 2 then asks_told d payload else asks_nth d (d.asked - 2)))) content
    asked true is = absurd (true≢false (sym is ∙ not_one d.asked i count.0))
    asked false is = asked_two (d.asked == 2) refl

    failed : (b : Bool) → (slice_index payload 0 == FLASH_FAILED) ≡ b → Goes parts start t.goal t.asking.asked (on_next t (if b then (HasFailed, d) else (if d.asked == 1 then (Asks BANKS [], record { set = d.set; asked = 2; plan = d.plan }) else (if d.asked == 2 then asks_told d payload else asks_nth d (d.asked - 2))))) content
    failed true is = absurd (true≢false (sym is ∙ not_failed (slice_index payload 0) (slice_index payload 0 == FLASH_FAILED) refl (ap (λ (x : List ℕ). slice_index x 0) done)))
    failed false is = asked (d.asked == 1) refl

failure_on : (parts : Parts) (start : List ℕ) (t : Tool) (payload content : List ℕ) (set : List ℕ) (d : Deploying) (i : ℕ) (op : Operation) → t.asking.waiting ≡ None → t.goal.work ≡ DeploysAndRuns set → CanDeploy parts start set
    → t.asking.asked ≡ i + 3 → t.told ≡ false → slice_get (ops parts start set) i ≡ Some op → payload ≡ FLASH_FAILED ∷ [] → IsStopped op (content_after parts set start i) content
    → Goes parts start t.goal t.asking.asked (on_next t (next_of d (Some payload))) content
unfolding next_of
failure_on parts start t payload content set d i op none work can count untold nth failure stopped = failed (slice_index payload 0 == FLASH_FAILED) refl
  where
    failed : (b : Bool) → (slice_index payload 0 == FLASH_FAILED) ≡ b → Goes parts start t.goal t.asking.asked (on_next t (if b then (HasFailed, d) else (if d.asked == 1 then (Asks BANKS [], record { set = d.set; asked = 2; plan = d.plan }) else (if d.asked == 2 then asks_told d payload else asks_nth d (d.asked - 2))))) content
    failed true is = rests parts start t FlashFailed [] content none (Broken set i op work can untold count nth stopped)
    failed false is = absurd (true≢false (sym (ap (λ (x : List ℕ). slice_index x 0 == FLASH_FAILED) failure) ∙ is))

-- what every answered state settles, where the tool stops
pub after_settled : (parts : Parts) (start : List ℕ) (t : Tool) (payload content : List ℕ) → After parts start t payload content → Settled parts start t.goal.work t.told t.asking.asked content
after_settled parts start t payload content (OpenDone set d work deployable stage same_set count untold same) = NeverTouched (let e = count.1 in omega arith) same untold
after_settled parts start t payload content (BanksDone set d work deployable stage same_set count untold told same) = NeverTouched (let e = count.1 in omega arith) same untold
after_settled parts start t payload content (OperationDone set d i op work can stage same_set count plan untold nth done same) = Halted set (i + 1) work can untold (let e = count.1 in omega arith) same
after_settled parts start t payload content (OperationFailed set d i op work can stage count untold nth failure stopped) = Broken set i op work can untold count.1 nth stopped
after_settled parts start t payload content (LaterDone later steady) = Steadily steady

stage_on : (parts : Parts) (start : List ℕ) (t : Tool) (payload content : List ℕ) → IsFormat parts.format → length start ≡ 262144 → AreBytes start → t.asking.waiting ≡ None
    → After parts start t payload content → Goes parts start t.goal t.asking.asked (on_stage t payload t.stage) content
stage_on parts start t payload content format size bytes none (OpenDone set d work deployable stage same_set count untold same) =
    subst (λ (x : Stage). Goes parts start t.goal t.asking.asked (on_stage t payload x) content) (sym stage) (open_on parts start t payload content set d none work deployable same_set count untold same)
stage_on parts start t payload content format size bytes none (BanksDone set d work deployable stage same_set count untold told same) =
    subst (λ (x : Stage). Goes parts start t.goal t.asking.asked (on_stage t payload x) content) (sym stage) (banks_on parts start t payload content set d format size bytes none work deployable same_set count untold told same)
stage_on parts start t payload content format size bytes none (OperationDone set d i op work can stage same_set count plan untold nth done same) =
    subst (λ (x : Stage). Goes parts start t.goal t.asking.asked (on_stage t payload x) content) (sym stage) (operation_on parts start t payload content set d i none work can same_set count plan untold done same)
stage_on parts start t payload content format size bytes none (OperationFailed set d i op work can stage count untold nth failure stopped) =
    subst (λ (x : Stage). Goes parts start t.goal t.asking.asked (on_stage t payload x) content) (sym stage) (failure_on parts start t payload content set d i op none work can count.1 untold nth failure stopped)
stage_on parts start t payload content format size bytes none (LaterDone later settled) = later_on parts start t payload content t.stage none later refl settled

pub advances : (parts : Parts) (start : List ℕ) (t : Tool) (payload content : List ℕ) → IsFormat parts.format → length start ≡ 262144 → AreBytes start → t.asking.waiting ≡ None
    → After parts start t payload content → Goes parts start t.goal t.asking.asked (advanced t payload) content
unfolding advanced
advances parts start t payload content format size bytes none done = memory (slice_index payload 0 == NO_MEMORY)
  where
    failure : (b : Bool) → Goes parts start t.goal t.asking.asked (if b then is_over t FlashFailed [] else on_stage t payload t.stage) content
    failure true = rests parts start t FlashFailed [] content none (after_settled parts start t payload content done)
    failure false = stage_on parts start t payload content format size bytes none done

    memory : (b : Bool) → Goes parts start t.goal t.asking.asked (if b then is_over t NoMemory [] else (if slice_index payload 0 == FLASH_FAILED then is_over t FlashFailed [] else on_stage t payload t.stage)) content
    memory true = rests parts start t NoMemory [] content none (after_settled parts start t payload content done)
    memory false = failure (slice_index payload 0 == FLASH_FAILED)
