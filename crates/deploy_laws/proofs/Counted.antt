-- How many requests a session asks, and how many it may still ask.
use Rattle.std.proofs.Common.{◌≡◌, ◌⊎◌, ℕ, ◌+◌, ◌-◌, ◌*◌, ◌^◌, ◌<◌, ◌≤◌, min, Bool, true, false, ◌&&◌, ◌||◌, List, [], ◌∷◌, ◌++◌, length, drop, Option, Some, None, refl, sym, ap, subst, ◌∙◌, inl, inr, arith}
use Rattle.std.specs.Prelude.{slice_get, slice_index, if◌then◌else◌, ◌==◌, nat_lt, nat_le}
use Rattle.std.proofs.lemmas.Bool.{and_parts, or_cases, eq-eqb, eqb-true, leb-true, ltb-true, true≢false}
use Rattle.std.proofs.lemmas.List.{length-append}
use Rattle.flash_trait.specs.Flash.{Operation}
use Rattle.wire_packets.specs.declared.packet.Packet.{Packet}
use Rattle.wire_packets.specs.declared.command.TheConstants.{RUN, FETCH, CLOSE, BANKS, DONE, FLASH_FAILED, NO_MEMORY}
use Rattle.wire_packets.specs.declared.payload.TheConstants.{MAX_TEXT}
use Rattle.little_endian.specs.Numbers.{number}
use Rattle.wire_session.specs.Asking.{is_awaited, waiting_matches, after_reply}
use Rattle.wire_session.specs.Replies.{answers, fits, is_end, numbers_fit, has_asked_length}
use Rattle.deploy_model.specs.Banks.{ROOM}
use Rattle.deploy_model.specs.Deployment.{plan_for, banks_told, is_spent, operations, Deploying, Next, Asks, HasFailed, IsSpent, next_of, asks_nth, asks_operation, asks_planned, asks_told, TOLD_SIZE, PIECE}
use Rattle.deploy_model.specs.Tool.{Stage, Deploys, Opens, Runs, Fetches, Closes, IsOver, Finish, FlashFailed, NumbersSpent, NoMemory, HasRun, Tool, asks, is_over, on_next, on_stage, advanced, takes, fetches, fetch_payload, run_payload, text_length}
use Rattle.deploy_laws.proofs.Counts.{get_inside, few_operations}
use Rattle.deploy_laws.proofs.Matching.{matches_answers}
use Rattle.deploy_laws.proofs.Running.{size_back}

-- the open request, where there is one, asks this
abbrev pub Asks_for : Tool → ℕ → List ℕ → Type 0
Asks_for t command payload = (p : Packet) → t.asking.waiting ≡ Some p → (p.command ≡ command) × (p.payload.items ≡ payload)

-- the count of a session's requests, by its stage: Open, Banks and at most 140 operations, Run, pieces of 1,016 bytes of
-- a text, Close
abbrev pub CountAt : Tool → Stage → Type 0
CountAt t (Deploys d) = (t.asking.asked ≡ d.asked) × (1 ≤ d.asked) × (d.asked ≤ 142) × (length d.set ≤ ROOM) × (t.got ≡ [])
CountAt t Opens = (t.asking.asked ≤ 1) × (t.got ≡ [])
CountAt t Runs = (t.asking.asked ≤ 143) × (t.got ≡ []) × Asks_for t RUN (run_payload t.goal)
CountAt t (Fetches end) =
    (1016 * t.asking.asked ≤ 1016 * 144 + length t.got) × (length t.got < text_length end) × (text_length end ≤ MAX_TEXT) × Asks_for t FETCH (fetch_payload end (length t.got))
CountAt t (Closes end) = t.asking.asked ≤ 4338
CountAt t (IsOver finish end) = t.asking.asked ≤ 4338

abbrev pub IsCounted : Tool → Type 0
IsCounted t = CountAt t t.stage

-- more than the requests that may still be asked; a session that only runs has fewer than one that deploys
abbrev pub left_at : ℕ → Stage → ℕ
left_at asked (Deploys d) = 4500 + (142 - asked)
left_at asked Opens = 4480 - asked
left_at asked Runs = 4480 - asked
left_at asked (Fetches end) = 4480 - asked
left_at asked (Closes end) = 4480 - asked
left_at asked (IsOver finish end) = 4480 - asked

abbrev pub left : Tool → ℕ
left t = left_at t.asking.asked t.stage

few_at : (t : Tool) (stage : Stage) → CountAt t stage → t.asking.asked ≤ 4338
few_at t (Deploys d) so = let a = so.0 in let b = so.2 in omega arith
few_at t Opens so = let a = so.0 in omega arith
few_at t Runs so = let a = so.0 in omega arith
few_at t (Fetches end) so = cut_low t.asking.asked (length t.got) (text_length end) so.0 so.1 so.2
  where
    cut_low : (a n m : ℕ) → 1016 * a ≤ 1016 * 144 + n → n < m → m ≤ 4259851 → a ≤ 4338
    cut_low a n m one two three = omega arith
few_at t (Closes end) so = so
few_at t (IsOver finish end) so = so

pub few : (t : Tool) → IsCounted t → t.asking.asked ≤ 4338
few t so = few_at t t.stage so

least_left : (asked : ℕ) (stage : Stage) → 4480 - asked ≤ left_at asked stage
least_left asked (Deploys d) = omega arith
least_left asked Opens = omega arith
least_left asked Runs = omega arith
least_left asked (Fetches end) = omega arith
least_left asked (Closes end) = omega arith
least_left asked (IsOver finish end) = omega arith

-- a tool behind another: it rests, or it has fewer requests left
pub record Advances (before : ℕ) (t : Tool) : Type 0 where
  pub counted : IsCounted t
  pub down : left t ≤ before
  pub on : (t.asking.waiting ≡ None) ⊎ (left t < before)

-- it is over
over : (t : Tool) (finish : Finish) (end : List ℕ) (before : ℕ) → t.asking.waiting ≡ None → t.asking.asked ≤ 4338 → 4480 - t.asking.asked ≤ before → Advances before (is_over t finish end)
over t finish end before none low less = record { counted = low; down = less; on = inl none }

some_same : (x y : Packet) → Some x ≡ Some y → y ≡ x
some_same x y e = cc

-- a later stage
run_next : (t : Tool) (before : ℕ) → t.asking.asked ≤ 142 → t.got ≡ [] → 4480 - t.asking.asked ≤ before → Advances before (asks t Runs RUN (run_payload t.goal))
run_next t before low got less =
    record {
      counted = (omega arith, got, λ p is. let e = some_same _ p is in (ap (λ (x : Packet). x.command) e, ap (λ (x : Packet). x.payload.items) e));
      down = omega arith;
      on = inr (omega arith);
    }

fetches_next : (t : Tool) (end : List ℕ) (before : ℕ) → text_length end ≤ MAX_TEXT → (length t.got < text_length end → 1016 * (t.asking.asked + 1) ≤ 1016 * 144 + length t.got) → t.asking.asked ≤ 4337 → 4480 - t.asking.asked ≤ before
    → Advances before (fetches t end)
fetches_next t end before most count low less = by (nat_lt (length t.got) (text_length end)) refl
  where
    closing : (a : ℕ) → a ≤ 4337 → a + 1 ≤ 4338
    closing a l = omega arith

    lower : (a n : ℕ) → a ≤ 4337 → 4480 - a ≤ n → 4480 - (a + 1) ≤ n
    lower a n l k = omega arith

    below : (a n : ℕ) → a ≤ 4337 → 4480 - a ≤ n → 4480 - (a + 1) < n
    below a n l k = omega arith

    by : (b : Bool) → nat_lt (length t.got) (text_length end) ≡ b → Advances before (if b then asks t (Fetches end) FETCH (fetch_payload end (length t.got)) else asks t (Closes end) CLOSE [])
    by true is =
        let inside = ltb-true (length t.got) (text_length end) is in
        record {
          counted = (count inside, inside, most, λ p same. let e = some_same _ p same in (ap (λ (x : Packet). x.command) e, ap (λ (x : Packet). x.payload.items) e));
          down = lower t.asking.asked before low less;
          on = inr (below t.asking.asked before low less);
        }
    by false is = record { counted = closing t.asking.asked low; down = lower t.asking.asked before low less; on = inr (below t.asking.asked before low less) }

-- ---- a deployment goes on
-- a deployment that its tool counts
record Fits (t : Tool) (d : Deploying) : Type 0 where
  same : t.asking.asked ≡ d.asked
  some : 1 ≤ d.asked
  few : d.asked ≤ 142
  room : length d.set ≤ ROOM
  got : t.got ≡ []
  waiting : t.asking.waiting ≡ None

abbrev Goes : Tool → Next × Deploying → Type 0
Goes t next = Advances (4500 + (142 - t.asking.asked)) (on_next t next)

operation_next : (t : Tool) (d : Deploying) (i : ℕ) (o : Option Operation) → Fits t d → d.asked ≡ i + 2 → slice_get (operations d.plan d.set) i ≡ o → Goes t (asks_operation d o)
operation_next t d i None so count nth =
    let same = so.same in
    let low = so.few in
    run_next (record { asking = t.asking; goal = t.goal; stage = t.stage; told = true; got = t.got }) (4500 + (142 - t.asking.asked)) (omega arith) so.got (omega arith)
operation_next t d i (Some op) so count nth =
    let same = so.same in
    let inside = get_inside (operations d.plan d.set) i op nth in
    let most = few_operations d.plan d.set so.room in
    record { counted = (omega arith, omega arith, omega arith, so.room, so.got); down = omega arith; on = inr (omega arith) }

next_goes : (t : Tool) (d : Deploying) (payload : List ℕ) → Fits t d → Goes t (next_of d (Some payload))
unfolding next_of
next_goes t d payload so = failed (slice_index payload 0 == FLASH_FAILED)
  where
    ends : (finish : Finish) → Advances (4500 + (142 - t.asking.asked)) (is_over t finish [])
    ends finish = let same = so.same in let low = so.few in over t finish [] (4500 + (142 - t.asking.asked)) so.waiting (omega arith) (omega arith)

    planned : (b : Bool) → d.asked ≡ 2 → Goes t (if b then (IsSpent, d) else asks_nth (record { set = d.set; asked = d.asked; plan = plan_for (banks_told payload) }) 0)
    planned true two = ends NumbersSpent
    planned false two =
        operation_next t (record { set = d.set; asked = d.asked; plan = plan_for (banks_told payload) }) 0 (slice_get (operations (plan_for (banks_told payload)) d.set) 0)
        (record { same = so.same; some = so.some; few = so.few; room = so.room; got = so.got; waiting = so.waiting }) two refl

    told_whole : (b : Bool) → d.asked ≡ 2 → Goes t (if b then asks_planned d (banks_told payload) else (HasFailed, d))
    told_whole true two = planned (is_spent (banks_told payload)) two
    told_whole false two = ends FlashFailed

    behind : (n : ℕ) → 1 ≤ n → (n ≡ 1 → ⊥) → (n ≡ 2 → ⊥) → n ≡ n - 2 + 2
    behind n some one two = omega arith

    ne_of : (n m : ℕ) → (n == m) ≡ false → n ≡ m → ⊥
    ne_of n m is same = absurd (true≢false (sym (eq-eqb n m same) ∙ is))

    asked_two : (b : Bool) → (d.asked == 2) ≡ b → (d.asked == 1) ≡ false → Goes t (if b then asks_told d payload else asks_nth d (d.asked - 2))
    asked_two true is not_one = told_whole (length payload == TOLD_SIZE) (eqb-true d.asked 2 is)
    asked_two false is not_one =
        let some = so.some in
        let one = ne_of d.asked 1 not_one in
        let two = ne_of d.asked 2 is in
        operation_next t d (d.asked - 2) (slice_get (operations d.plan d.set) (d.asked - 2)) so (behind d.asked some one two) refl

    asked : (b : Bool) → (d.asked == 1) ≡ b → Goes t (if b then (Asks BANKS [], record { set = d.set; asked = 2; plan = d.plan }) else (if d.asked == 2 then asks_told d payload else asks_nth d (d.asked - 2)))
    asked true is =
        let one = eqb-true d.asked 1 is in
        let same = so.same in
        record { counted = (omega arith, omega arith, omega arith, so.room, so.got); down = omega arith; on = inr (omega arith) }
    asked false is = asked_two (d.asked == 2) refl is

    failed : (b : Bool) → Goes t (if b then (HasFailed, d) else (if d.asked == 1 then (Asks BANKS [], record { set = d.set; asked = 2; plan = d.plan }) else (if d.asked == 2 then asks_told d payload else asks_nth d (d.asked - 2))))
    failed true = ends FlashFailed
    failed false = asked (d.asked == 1) refl

-- ---- what an answer has
-- an answer that tells of no failure
record IsDone (last : Option ℕ) (request : Packet) (payload : List ℕ) : Type 0 where
  body : List ℕ
  whole : payload ≡ DONE ∷ body
  fit : fits last request.command request.payload.items body ≡ true

is_done : (last : Option ℕ) (request : Packet) (payload : List ℕ) → answers last request payload ≡ true → (slice_index payload 0 == NO_MEMORY) ≡ false → (slice_index payload 0 == FLASH_FAILED) ≡ false → IsDone last request payload
unfolding answers
is_done last request [] answer memory failure = absurd (true≢false (sym answer))
is_done last request (status ∷ body) answer memory failure = by (status == DONE) refl answer
  where
    by : (b : Bool) → (status == DONE) ≡ b → (if b then fits last request.command request.payload.items body else ((status == FLASH_FAILED) || (status == NO_MEMORY)) && (length body == 0)) ≡ true → IsDone last request (status ∷ body)
    by true is e = record { body = body; whole = ap (λ (n : ℕ). n ∷ body) (eqb-true status DONE is); fit = e }
    by false is e =
        elim (or_cases (status == FLASH_FAILED) (status == NO_MEMORY) (and_parts ((status == FLASH_FAILED) || (status == NO_MEMORY)) (length body == 0) e).0) [
          | inl failed ↦ absurd (true≢false (sym failed ∙ failure))
          | inr want ↦ absurd (true≢false (sym want ∙ memory))
        ]

end_length : (body : List ℕ) → is_end MAX_TEXT body ≡ true → text_length (DONE ∷ body) ≤ MAX_TEXT
unfolding is_end number
end_length body is =
    let rest = and_parts (length body == 17) (numbers_fit (slice_index body 0) (number 4 1 body) (number 4 5 body) (number 4 9 body) && nat_le (number 4 13 body) MAX_TEXT) is in
    leb-true (number 4 13 body) MAX_TEXT (and_parts (numbers_fit (slice_index body 0) (number 4 1 body) (number 4 5 body) (number 4 9 body)) (nat_le (number 4 13 body) MAX_TEXT) rest.1).1

run_end : (last : Option ℕ) (command : ℕ) (payload body : List ℕ) → command ≡ RUN → fits last command payload body ≡ true → is_end MAX_TEXT body ≡ true
unfolding fits
run_end last command payload body e is = subst (λ (n : ℕ). fits last n payload body ≡ true) e is

piece_length : (last : Option ℕ) (command : ℕ) (payload asked body : List ℕ) → command ≡ FETCH → payload ≡ asked → fits last command payload body ≡ true → length body ≡ number 4 4 asked
unfolding fits has_asked_length
piece_length last command payload asked body e f is =
    let fit : has_asked_length asked body ≡ true = subst (λ (xs : List ℕ). has_asked_length xs body ≡ true) f (subst (λ (n : ℕ). fits last n payload body ≡ true) e is) in
    let rest = and_parts (length asked == 8) (nat_le (number 4 4 asked) 1016 && (length body == number 4 4 asked)) fit in
    eqb-true (length body) (number 4 4 asked) (and_parts (nat_le (number 4 4 asked) 1016) (length body == number 4 4 asked) rest.1).1

-- ---- every stage
abbrev closed : Tool → Packet → Tool
closed t r = record { asking = after_reply t.asking r; goal = t.goal; stage = t.stage; told = t.told; got = t.got }

fetched_length : (t : Tool) (end body : List ℕ) → length t.got < text_length end → text_length end ≤ MAX_TEXT → length body ≡ number 4 4 (fetch_payload end (length t.got)) → 1016 * t.asking.asked ≤ 1016 * 144 + length t.got
    → length (t.got ++ body) < text_length end → 1016 * (t.asking.asked + 1) ≤ 1016 * 144 + length (t.got ++ body)
fetched_length t end body inside most size count more =
    let small = bound (text_length end) (length t.got) in
    let piece : length body ≡ min PIECE (text_length end - length t.got) = size ∙ size_back end (length t.got) small in
    let whole : length (t.got ++ body) ≡ length t.got + length body = length-append t.got body in
    next t.asking.asked (length t.got) (length body) (length (t.got ++ body)) (text_length end) count inside piece whole more
  where
    bound : (n m : ℕ) → min 1016 (n - m) < 2 ^ 32
    bound n m = omega arith

    next : (a k b w n : ℕ) → 1016 * a ≤ 1016 * 144 + k → k < n → b ≡ min 1016 (n - k) → w ≡ k + b → w < n → 1016 * (a + 1) ≤ 1016 * 144 + w
    next a k b w n one two e f three = omega arith

stage_goes : (t : Tool) (r request : Packet) (stage : Stage) → t.stage ≡ stage → CountAt t stage → t.asking.waiting ≡ Some request → (closed t r).asking.waiting ≡ None → IsDone t.asking.last_break request r.payload.items
    → Advances (left_at t.asking.asked stage) (on_stage (closed t r) r.payload.items stage)
stage_goes t r request (Deploys d) same so waiting none done =
    next_goes (closed t r) d r.payload.items (record { same = so.0; some = so.1; few = so.2; room = so.3; got = so.4; waiting = none })
stage_goes t r request Opens same so waiting none done = let low = so.0 in run_next (closed t r) (4480 - t.asking.asked) (omega arith) so.1 (omega arith)
stage_goes t r request Runs same so waiting none done =
    let low = so.0 in
    let asked = so.2 request waiting in
    let end = r.payload.items in
    let most : text_length end ≤ MAX_TEXT =
    subst (λ (xs : List ℕ). text_length xs ≤ MAX_TEXT) (sym done.whole) (end_length done.body (run_end t.asking.last_break request.command request.payload.items done.body asked.0 done.fit)) in
    fetches_next (closed t r) end (4480 - t.asking.asked) most (λ inside. first t.asking.asked (length t.got) low) (above t.asking.asked low) (at_most (4480 - t.asking.asked))
  where
    first : (a n : ℕ) → a ≤ 143 → 1016 * (a + 1) ≤ 1016 * 144 + n
    first a n l = omega arith

    above : (a : ℕ) → a ≤ 143 → a ≤ 4337
    above a l = omega arith

    at_most : (n : ℕ) → n ≤ n
    at_most n = omega arith
stage_goes t r request (Fetches end) same so waiting none done =
    let asked = so.3 request waiting in
    let size = piece_length t.asking.last_break request.command request.payload.items (fetch_payload end (length t.got)) done.body asked.0 asked.1 done.fit in
    subst (λ (xs : List ℕ). Advances (4480 - t.asking.asked) (fetches (with_got xs) end)) (sym (ap (λ (xs : List ℕ). t.got ++ drop 1 xs) done.whole))
    (fetches_next (with_got (t.got ++ done.body)) end (4480 - t.asking.asked) so.2 (fetched_length t end done.body so.1 so.2 size so.0)
    (cut_low t.asking.asked (length t.got) (text_length end) so.0 so.1 so.2) (at_most (4480 - t.asking.asked)))
  where
    with_got : List ℕ → Tool
    with_got xs = record { asking = (closed t r).asking; goal = t.goal; stage = t.stage; told = t.told; got = xs }

    cut_low : (a n m : ℕ) → 1016 * a ≤ 1016 * 144 + n → n < m → m ≤ 4259851 → a ≤ 4337
    cut_low a n m one two three = omega arith

    at_most : (n : ℕ) → n ≤ n
    at_most n = omega arith
stage_goes t r request (Closes end) same so waiting none done = over (closed t r) HasRun end (4480 - t.asking.asked) none so (at_most (4480 - t.asking.asked))
  where
    at_most : (n : ℕ) → n ≤ n
    at_most n = omega arith
stage_goes t r request (IsOver finish end) same so waiting none done =
    record {
      counted = subst (λ (s : Stage). CountAt (closed t r) s) (sym same) so;
      down = subst (λ (s : Stage). left_at t.asking.asked s ≤ 4480 - t.asking.asked) (sym same) (at_most (4480 - t.asking.asked));
      on = inl none;
    }
  where
    at_most : (n : ℕ) → n ≤ n
    at_most n = omega arith

-- the reply that is awaited
pub taken : (t : Tool) (r : Packet) → IsCounted t → is_awaited t.asking r ≡ true → Advances (left t) (takes t r)
unfolding advanced
taken t r so awaited = by t.asking.waiting refl awaited
  where
    none : (closed t r).asking.waiting ≡ None
    none = ap (λ (b : Bool). if b then None else t.asking.waiting) awaited

    ends : (finish : Finish) → Advances (left t) (is_over (closed t r) finish [])
    ends finish = over (closed t r) finish [] (left t) none (few t so) (least_left t.asking.asked t.stage)

    failure : (request : Packet) → t.asking.waiting ≡ Some request → answers t.asking.last_break request r.payload.items ≡ true → (slice_index r.payload.items 0 == NO_MEMORY) ≡ false
        → (b : Bool) → (slice_index r.payload.items 0 == FLASH_FAILED) ≡ b → Advances (left t) (if b then is_over (closed t r) FlashFailed [] else on_stage (closed t r) r.payload.items t.stage)
    failure request waiting answer memory true is = ends FlashFailed
    failure request waiting answer memory false is = stage_goes t r request t.stage refl so waiting none (is_done t.asking.last_break request r.payload.items answer memory is)

    want : (request : Packet) → t.asking.waiting ≡ Some request → answers t.asking.last_break request r.payload.items ≡ true
        → (b : Bool) → (slice_index r.payload.items 0 == NO_MEMORY) ≡ b
        → Advances (left t) (if b then is_over (closed t r) NoMemory [] else (if slice_index r.payload.items 0 == FLASH_FAILED then is_over (closed t r) FlashFailed [] else on_stage (closed t r) r.payload.items t.stage))
    want request waiting answer true is = ends NoMemory
    want request waiting answer false is = failure request waiting answer is (slice_index r.payload.items 0 == FLASH_FAILED) refl

    by : (o : Option Packet) → t.asking.waiting ≡ o → waiting_matches t.asking.last_break o r ≡ true
        → Advances (left t) (if slice_index r.payload.items 0 == NO_MEMORY then is_over (closed t r) NoMemory [] else (if slice_index r.payload.items 0 == FLASH_FAILED then is_over (closed t r) FlashFailed [] else on_stage (closed t r) r.payload.items t.stage))
    by None is match_it = absurd (true≢false (sym match_it))
    by (Some request) is match_it = want request is (matches_answers t.asking.last_break request r match_it) (slice_index r.payload.items 0 == NO_MEMORY) refl
