-- An honest network runs what is there, fetches the text and closes.
use Rattle.std.proofs.Common.{◌≡◌, ℕ, zero, suc, ◌+◌, ◌-◌, ◌*◌, ◌/◌, ◌^◌, ◌<◌, ◌≤◌, min, Bool, true, false, ◌&&◌, List, [], ◌∷◌, ◌++◌, length, take, drop, Option, refl, sym, ap, subst, ◌∙◌, arith}
use Rattle.std.specs.Prelude.{if◌then◌else◌, ◌==◌, nat_lt, nat_le}
use Rattle.std.proofs.lemmas.Bool.{and_from, eq-eqb, lt-ltb, le-ltb, le-leb}
use Rattle.std.proofs.lemmas.List.{length-take, length-drop, take_all}
use Rattle.std.proofs.Math.Seq.{take-add}
use Rattle.byteorder.specs.Endian.{little_bytes}
use Rattle.byteorder.specs.Numbers.{little_number-reads_back}
use Rattle.wire_packets.specs.declared.packet.Packet.{Packet}
use Rattle.wire_packets.specs.declared.command.TheConstants.{RUN, FETCH, CLOSE, DONE}
use Rattle.wire_packets.specs.declared.payload.TheConstants.{MAX_TEXT}
use Rattle.little_endian.specs.Numbers.{number}
use Rattle.wire_session.specs.Asking.{Asking, next_request, break_after}
use Rattle.wire_session.specs.Replies.{answers, fits, is_end, numbers_fit, has_asked_length}
use Rattle.deploy_model.specs.Deployment.{PIECE}
use Rattle.deploy_model.specs.Board.{Parts, Ended, Works, Did, did, does, did_run, is_run, end_bytes, MOST_CELLS, operation_asked}
use Rattle.deploy_model.specs.Tool.{Goal, Runs, Fetches, Closes, IsOver, HasRun, Tool, asks, advanced, fetches, fetch_payload, run_payload, text_length}
use Rattle.deploy_model.specs.World.{World}
use Rattle.deploy_model.specs.Play.{honest, honest_turn, ended, CanRun, HasTheRun, fetch_count}
use Rattle.deploy_laws.proofs.Honest.{Scene, world_at, scene_after, answered, turn_goes, turn_by, IsReady}
use Rattle.deploy_laws.proofs.Matching.{matches_by}

if_true : {X : Type 0} (b : Bool) (x y : X) → b ≡ true → (if b then x else y) ≡ x
if_true b x y is = ap (λ (c : Bool). if c then x else y) is

if_false : {X : Type 0} (b : Bool) (x y : X) → b ≡ false → (if b then x else y) ≡ y
if_false b x y is = ap (λ (c : Bool). if c then x else y) is

-- ---- Run
steps_back : (g : Goal) → g.steps < 2 ^ 64 → number 8 0 (run_payload g) ≡ g.steps
unfolding number
steps_back g small = little_number-reads_back 8 g.steps (little_bytes 4 g.cells) small

cells_back : (g : Goal) → g.cells < 2 ^ 32 → number 4 8 (run_payload g) ≡ g.cells
unfolding number
cells_back g small = little_number-reads_back 4 g.cells [] small

cells_small : (n : ℕ) → n ≤ 4194304 → n < 2 ^ 32
cells_small n low = omega arith

can_ask : (g : Goal) → 1 ≤ g.cells → g.cells ≤ MOST_CELLS → is_run (run_payload g) ≡ true
can_ask g some few =
    let e = cells_back g (cells_small g.cells few) in
    and_from (nat_le 1 (number 4 8 (run_payload g))) (nat_le (number 4 8 (run_payload g)) MOST_CELLS)
    (ap (λ (n : ℕ). nat_le 1 n) e ∙ le-leb 1 g.cells some) (ap (λ (n : ℕ). nat_le n MOST_CELLS) e ∙ le-leb g.cells MOST_CELLS few)

abbrev run_did : Parts → Goal → List ℕ → Did
run_did parts g content = did content (ended parts g content).text (DONE ∷ end_bytes (ended parts g content))

run_done : (parts : Parts) (g : Goal) (content text : List ℕ) (a : Asking) → CanRun parts g content → does parts content text (next_request a RUN (run_payload g)) Works ≡ run_did parts g content
unfolding does operation_asked
run_done parts g content text a can =
    if_true (is_run (run_payload g)) (did_run parts content text (run_payload g) Works) (did content text (Rattle.wire_packets.specs.declared.command.TheConstants.NO_REQUEST ∷ [])) (can_ask g can.some_cells can.few_cells)
    ∙ ap (λ (n : ℕ). by n (number 4 8 (run_payload g))) (steps_back g can.steps)
    ∙ ap (λ (n : ℕ). by g.steps n) (cells_back g (cells_small g.cells can.few_cells))
  where
    by : ℕ → ℕ → Did
    by steps cells = did content (parts.runs content steps cells).text (DONE ∷ end_bytes (parts.runs content steps cells))

-- what the end tells
first_back : (e : Ended) → e.a < 2 ^ 32 → number 4 1 (end_bytes e) ≡ e.a
unfolding number
first_back e small = little_number-reads_back 4 e.a (little_bytes 4 e.b ++ little_bytes 4 e.c ++ little_bytes 4 (length e.text)) small

second_back : (e : Ended) → e.b < 2 ^ 32 → number 4 5 (end_bytes e) ≡ e.b
unfolding number
second_back e small = little_number-reads_back 4 e.b (little_bytes 4 e.c ++ little_bytes 4 (length e.text)) small

third_back : (e : Ended) → e.c < 2 ^ 32 → number 4 9 (end_bytes e) ≡ e.c
unfolding number
third_back e small = little_number-reads_back 4 e.c (little_bytes 4 (length e.text)) small

length_back : (e : Ended) → length e.text < 2 ^ 32 → number 4 13 (end_bytes e) ≡ length e.text
unfolding number
length_back e small = little_number-reads_back 4 (length e.text) [] small

told_length : (e : Ended) → length e.text < 2 ^ 32 → text_length (DONE ∷ end_bytes e) ≡ length e.text
unfolding number
told_length e small = little_number-reads_back 4 (length e.text) [] small

text_small : (n : ℕ) → n ≤ 4259851 → n < 2 ^ 32
text_small n low = omega arith

end_is : (e : Ended) → e.a < 2 ^ 32 → e.b < 2 ^ 32 → e.c < 2 ^ 32 → numbers_fit e.kind e.a e.b e.c ≡ true → length e.text ≤ MAX_TEXT → is_end MAX_TEXT (end_bytes e) ≡ true
unfolding is_end
end_is e a b c fit text =
    and_from (numbers_fit e.kind (number 4 1 (end_bytes e)) (number 4 5 (end_bytes e)) (number 4 9 (end_bytes e))) (nat_le (number 4 13 (end_bytes e)) MAX_TEXT)
    (ap (λ (n : ℕ). numbers_fit e.kind n (number 4 5 (end_bytes e)) (number 4 9 (end_bytes e))) (first_back e a)
    ∙ ap (λ (n : ℕ). numbers_fit e.kind e.a n (number 4 9 (end_bytes e))) (second_back e b)
    ∙ ap (λ (n : ℕ). numbers_fit e.kind e.a e.b n) (third_back e c)
    ∙ fit)
    (ap (λ (n : ℕ). nat_le n MAX_TEXT) (length_back e (text_small (length e.text) text)) ∙ le-leb (length e.text) MAX_TEXT text)

done_answers : (last : Option ℕ) (p : Packet) (body : List ℕ) → fits last p.command p.payload.items body ≡ true → answers last p (DONE ∷ body) ≡ true
unfolding answers
done_answers last p body is = is

run_fits : (last : Option ℕ) (payload body : List ℕ) → is_end MAX_TEXT body ≡ true → fits last RUN payload body ≡ true
unfolding fits
run_fits last payload body is = is

ended_run : (u : Tool) (body payload : List ℕ) → advanced (answered u Runs RUN payload) (DONE ∷ body) ≡ fetches (answered u Runs RUN payload) (DONE ∷ body)
unfolding advanced
ended_run u body payload = refl

run_turn : (parts : Parts) (g : Goal) (s : Scene) (t : Tool) → t.goal ≡ g → t.asking.asked ≤ 142 → CanRun parts g s.content
    → turn_by parts s t Runs RUN (run_payload g) (run_did parts g s.content) (fetches (answered t Runs RUN (run_payload g)) (DONE ∷ end_bytes (ended parts g s.content)))
run_turn parts g s t goal few can =
    let p = next_request t.asking RUN (run_payload g) in
    let e = ended parts g s.content in
    turn_goes parts s t Runs RUN (run_payload g) (run_did parts g s.content) (fetches (answered t Runs RUN (run_payload g)) (DONE ∷ end_bytes e)) (omega arith)
    (run_done parts g s.content s.text t.asking can)
    (matches_by (break_after t.asking.last_break RUN (run_payload g)) p (DONE ∷ end_bytes e)
    (done_answers (break_after t.asking.last_break RUN (run_payload g)) p (end_bytes e)
    (run_fits (break_after t.asking.last_break RUN (run_payload g)) (run_payload g) (end_bytes e) (end_is e can.first can.second can.third can.fit can.text))))
    (ended_run t (end_bytes e) (run_payload g))

-- ---- Close
close_done : (parts : Parts) (content text : List ℕ) (a : Asking) → does parts content text (next_request a CLOSE []) Works ≡ did content text (DONE ∷ [])
unfolding does operation_asked
close_done parts content text a = refl

close_fits : (last : Option ℕ) → fits last CLOSE [] [] ≡ true
unfolding fits
close_fits last = refl

closed_end : (t : Tool) (end : List ℕ) → advanced (answered t (Closes end) CLOSE []) (DONE ∷ [])
    ≡ record { asking = (answered t (Closes end) CLOSE []).asking; goal = t.goal; stage = IsOver HasRun end; told = t.told; got = t.got }
unfolding advanced
closed_end t end = refl

-- ---- Fetch
-- the k-th byte on of the text
at_back : (end : List ℕ) (k : ℕ) → k < 2 ^ 32 → number 4 0 (fetch_payload end k) ≡ k
unfolding number
at_back end k small = little_number-reads_back 4 k (little_bytes 4 (min PIECE (text_length end - k))) small

pub size_back : (end : List ℕ) (k : ℕ) → min PIECE (text_length end - k) < 2 ^ 32 → number 4 4 (fetch_payload end k) ≡ min PIECE (text_length end - k)
unfolding number
size_back end k small = little_number-reads_back 4 (min PIECE (text_length end - k)) [] small

-- a piece that is asked for
record Piece (text end : List ℕ) (k size : ℕ) : Type 0 where
  at : number 4 0 (fetch_payload end k) ≡ k
  asked : number 4 4 (fetch_payload end k) ≡ size
  most : size ≤ PIECE
  inside : k + size ≤ length text

piece_at : (text end : List ℕ) (k : ℕ) → text_length end ≡ length text → length text ≤ MAX_TEXT → k ≤ length text → Piece text end k (min PIECE (length text - k))
piece_at text end k size most inside =
    let e = ap (λ (n : ℕ). min PIECE (n - k)) size in
    record {
      at = at_back end k (omega arith);
      asked = size_back end k (small (length text) k (text_length end) size) ∙ e;
      most = low (length text) k;
      inside = fits_in (length text) k inside;
    }
  where
    small : (n j m : ℕ) → m ≡ n → min 1016 (m - j) < 2 ^ 32
    small n j m same = omega arith

    low : (n j : ℕ) → min 1016 (n - j) ≤ 1016
    low n j = omega arith

    fits_in : (n j : ℕ) → j ≤ n → j + min 1016 (n - j) ≤ n
    fits_in n j within = omega arith

fetch_done : (parts : Parts) (content text end : List ℕ) (k size : ℕ) (a : Asking) → Piece text end k size
    → does parts content text (next_request a FETCH (fetch_payload end k)) Works ≡ did content text (DONE ∷ take size (drop k text))
unfolding does operation_asked
fetch_done parts content text end k size a p =
    let payload = fetch_payload end k in
    let reply : ℕ → ℕ → List ℕ = λ n at. DONE ∷ take n (drop at text) in
    ap (λ (x : List ℕ). did content text x)
    (if_true (nat_le (number 4 4 payload) PIECE && nat_le (number 4 0 payload + number 4 4 payload) (length text)) (reply (number 4 4 payload) (number 4 0 payload)) (Rattle.wire_packets.specs.declared.command.TheConstants.NO_REQUEST ∷ [])
    (and_from (nat_le (number 4 4 payload) PIECE) (nat_le (number 4 0 payload + number 4 4 payload) (length text))
    (ap (λ (n : ℕ). nat_le n PIECE) p.asked ∙ le-leb size PIECE p.most)
    (ap (λ (n : ℕ). nat_le (n + number 4 4 payload) (length text)) p.at ∙ ap (λ (n : ℕ). nat_le (k + n) (length text)) p.asked ∙ le-leb (k + size) (length text) p.inside))
    ∙ ap (λ (n : ℕ). reply n (number 4 0 payload)) p.asked ∙ ap (λ (n : ℕ). reply size n) p.at)

length-piece : (text : List ℕ) (k size : ℕ) → k + size ≤ length text → length (take size (drop k text)) ≡ size
length-piece text k size inside = length-take size (drop k text) ∙ ap (λ (n : ℕ). min size n) (length-drop k text) ∙ low (length text) k size inside
  where
    low : (n j m : ℕ) → j + m ≤ n → min m (n - j) ≡ m
    low n j m within = omega arith

fetch_fits : (last : Option ℕ) (text end : List ℕ) (k size : ℕ) → Piece text end k size → fits last FETCH (fetch_payload end k) (take size (drop k text)) ≡ true
unfolding fits has_asked_length
fetch_fits last text end k size p =
    let body = take size (drop k text) in
    and_from (nat_le (number 4 4 (fetch_payload end k)) 1016) (length body == number 4 4 (fetch_payload end k))
    (ap (λ (n : ℕ). nat_le n 1016) p.asked ∙ le-leb size 1016 p.most)
    (eq-eqb (length body) (number 4 4 (fetch_payload end k)) (length-piece text k size p.inside ∙ sym p.asked))

-- the tool with one piece more
abbrev fetched : Tool → List ℕ → ℕ → List ℕ → Tool
fetched t end k bytes =
    record {
      asking = (answered t (Fetches end) FETCH (fetch_payload end k)).asking;
      goal = t.goal;
      stage = Fetches end;
      told = t.told;
      got = t.got ++ bytes;
    }

fetched_end : (t : Tool) (end : List ℕ) (k : ℕ) (bytes : List ℕ) → advanced (answered t (Fetches end) FETCH (fetch_payload end k)) (DONE ∷ bytes) ≡ fetches (fetched t end k bytes) end
unfolding advanced
fetched_end t end k bytes = refl

-- ---- the rest of a session
-- k bytes of the text were fetched
record Fetching (g : Goal) (end text : List ℕ) (content : List ℕ) (s : Scene) (t : Tool) (k : ℕ) : Type 0 where
  inside : k ≤ length text
  got : t.got ≡ take k text
  length_got : length t.got ≡ k
  text_kept : s.text ≡ text
  content_kept : s.content ≡ content

closes : (parts : Parts) (g : Goal) (content : List ℕ) (s : Scene) (t : Tool) → t.asking.asked < 65535 → CanRun parts g content
    → Fetching g (DONE ∷ end_bytes (ended parts g content)) (ended parts g content).text content s t (length (ended parts g content).text)
    → HasTheRun parts g content (honest parts 1 (world_at s t.asking.asked (fetches t (DONE ∷ end_bytes (ended parts g content)))))
closes parts g content s t few can so =
    let e = ended parts g content in
    let end = DONE ∷ end_bytes e in
    let size = told_length e (text_small (length e.text) can.text) in
    let asks_close : fetches t end ≡ asks t (Closes end) CLOSE [] =
    if_false (nat_lt (length t.got) (text_length end)) (asks t (Fetches end) FETCH (fetch_payload end (length t.got))) (asks t (Closes end) CLOSE [])
    (ap (λ (n : ℕ). nat_lt n (text_length end)) so.length_got ∙ ap (λ (n : ℕ). nat_lt (length e.text) n) size ∙ le-ltb (length e.text) (length e.text) (omega arith)) in
    let p = next_request t.asking CLOSE [] in
    let last = break_after t.asking.last_break CLOSE [] in
    let over : Tool = record { asking = (answered t (Closes end) CLOSE []).asking; goal = t.goal; stage = IsOver HasRun end; told = t.told; got = t.got } in
    let turn : honest_turn parts (world_at s t.asking.asked (fetches t end)) ≡ world_at (scene_after s p (did s.content s.text (DONE ∷ []))) (t.asking.asked + 1) over =
    ap (λ (u : Tool). honest_turn parts (world_at s t.asking.asked u)) asks_close
    ∙ turn_goes parts s t (Closes end) CLOSE [] (did s.content s.text (DONE ∷ [])) over few (close_done parts s.content s.text t.asking)
    (matches_by last p (DONE ∷ []) (done_answers last p [] (close_fits last))) (closed_end t end) in
    subst (λ (w : World). HasTheRun parts g content w) (sym turn)
    (record { content = so.content_kept; over = refl; text = so.got ∙ take_all (length e.text) e.text (omega arith); rests = refl })

fetches_all : (parts : Parts) (g : Goal) (content : List ℕ) (j : ℕ) (s : Scene) (t : Tool) (k : ℕ) → t.asking.asked + j < 65535 → CanRun parts g content
    → Fetching g (DONE ∷ end_bytes (ended parts g content)) (ended parts g content).text content s t k
    → length (ended parts g content).text ≤ k + PIECE * j → (1 ≤ j → k + PIECE * (j - 1) < length (ended parts g content).text)
    → HasTheRun parts g content (honest parts (suc j) (world_at s t.asking.asked (fetches t (DONE ∷ end_bytes (ended parts g content)))))
fetches_all parts g content zero s t k few can so high low =
    let inside = so.inside in
    let e : k ≡ length (ended parts g content).text = omega arith in
    closes parts g content s t (omega arith) can (subst (λ (n : ℕ). Fetching g (DONE ∷ end_bytes (ended parts g content)) (ended parts g content).text content s t n) e so)
fetches_all parts g content (suc j) s t k few can so high low =
    let e = ended parts g content in
    let end = DONE ∷ end_bytes e in
    let text = e.text in
    let size = told_length e (text_small (length text) can.text) in
    let left : k < length text = let h = low (omega arith) in omega arith in
    let n = min PIECE (length text - k) in
    let piece = piece_at text end k size can.text so.inside in
    let got_length = so.length_got in
    let asks_more : fetches t end ≡ asks t (Fetches end) FETCH (fetch_payload end k) =
    if_true (nat_lt (length t.got) (text_length end)) (asks t (Fetches end) FETCH (fetch_payload end (length t.got))) (asks t (Closes end) CLOSE [])
    (ap (λ (m : ℕ). nat_lt m (text_length end)) got_length ∙ ap (λ (m : ℕ). nat_lt k m) size ∙ lt-ltb k (length text) left)
    ∙ ap (λ (m : ℕ). asks t (Fetches end) FETCH (fetch_payload end m)) got_length in
    let p = next_request t.asking FETCH (fetch_payload end k) in
    let last = break_after t.asking.last_break FETCH (fetch_payload end k) in
    let bytes = take n (drop k text) in
    let made = did s.content s.text (DONE ∷ bytes) in
    let turn : honest_turn parts (world_at s t.asking.asked (fetches t end)) ≡ world_at (scene_after s p made) (t.asking.asked + 1) (fetches (fetched t end k bytes) end) =
    ap (λ (u : Tool). honest_turn parts (world_at s t.asking.asked u)) asks_more
    ∙ turn_goes parts s t (Fetches end) FETCH (fetch_payload end k) made (fetches (fetched t end k bytes) end) (omega arith)
    (ap (λ (x : List ℕ). does parts s.content x p Works) so.text_kept ∙ fetch_done parts s.content text end k n t.asking piece ∙ ap (λ (x : List ℕ). did s.content x (DONE ∷ bytes)) (sym so.text_kept))
    (matches_by last p (DONE ∷ bytes) (done_answers last p bytes (fetch_fits last text end k n piece))) (fetched_end t end k bytes) in
    let joined : t.got ++ bytes ≡ take (k + n) text = ap (λ (xs : List ℕ). xs ++ bytes) so.got ∙ sym (take-add k n text) in
    let next : k + n ≤ length text = piece.inside in
    subst (λ (w : World). HasTheRun parts g content (honest parts (suc j) w)) (sym turn)
    (fetches_all parts g content j (scene_after s p made) (fetched t end k bytes) (k + n) (omega arith) can
    (record {
      inside = next;
      got = joined;
      length_got = ap length joined ∙ length-take (k + n) text ∙ least (length text) (k + n) next;
      text_kept = so.text_kept;
      content_kept = so.content_kept;
    }) (above (length text) k j high so.inside) (λ some. below (length text) k j (low (omega arith)) some))
  where
    least : (m i : ℕ) → i ≤ m → min i m ≡ i
    least m i within = omega arith

    above : (m i r : ℕ) → m ≤ i + 1016 * suc r → i ≤ m → m ≤ i + min 1016 (m - i) + 1016 * r
    above m i r high within = omega arith

    below : (m i r : ℕ) → i + 1016 * (suc r - 1) < m → 1 ≤ r → i + min 1016 (m - i) + 1016 * (r - 1) < m
    below m i r low some = omega arith

-- from where Run is asked for
pub runs_ready : (parts : Parts) (g : Goal) (said : Bool) (content : List ℕ) (w : World) → IsReady g said 142 content w → CanRun parts g content
    → HasTheRun parts g content (honest parts (2 + fetch_count (ended parts g content).text) w)
runs_ready parts g said content w ready can =
    let e = ended parts g content in
    let t = ready.tool in
    let s = ready.scene in
    let j = fetch_count e.text in
    let can_there = subst (λ (c : List ℕ). CanRun parts g c) (sym ready.content) can in
    let u = answered t Runs RUN (run_payload g) in
    let turn : honest_turn parts w ≡ world_at (scene_after s (next_request t.asking RUN (run_payload g)) (run_did parts g content)) (t.asking.asked + 1) (fetches u (DONE ∷ end_bytes e)) =
    ap (honest_turn parts) ready.world ∙ run_turn parts g s t ready.goal ready.few can_there
    ∙ ap (λ (c : List ℕ). world_at (scene_after s (next_request t.asking RUN (run_payload g)) (run_did parts g c)) (t.asking.asked + 1) (fetches u (DONE ∷ end_bytes (ended parts g c)))) ready.content in
    let few = ready.few in
    let most = can.text in
    let count : 2 + j ≡ suc (suc j) = omega arith in
    subst (λ (n : ℕ). HasTheRun parts g content (honest parts n w)) (sym count)
    (subst (λ (v : World). HasTheRun parts g content (honest parts (suc j) v)) (sym turn)
    (fetches_all parts g content j (scene_after s (next_request t.asking RUN (run_payload g)) (run_did parts g content)) u 0 (room t.asking.asked (length e.text) few most) can
    (record { inside = omega arith; got = ready.got; length_got = ap length ready.got; text_kept = refl; content_kept = refl }) (high (length e.text)) (λ some. low (length e.text) some)))
  where
    room : (a n : ℕ) → a ≤ 142 → n ≤ 4259851 → a + 1 + (n + 1015) / 1016 < 65535
    room a n one two = omega arith

    high : (n : ℕ) → n ≤ 0 + 1016 * ((n + 1015) / 1016)
    high n = omega arith

    low : (n : ℕ) → 1 ≤ (n + 1015) / 1016 → 0 + 1016 * ((n + 1015) / 1016 - 1) < n
    low n some = omega arith
