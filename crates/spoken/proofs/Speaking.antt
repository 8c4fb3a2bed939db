-- How what is said grows.
use Rattle.std.proofs.Common.{◌≡◌, ℕ, zero, suc, ◌+◌, ◌-◌, ◌<◌, ◌≤◌, true, false, List, [], ◌∷◌, ◌++◌, length, take, refl, sym, ap, subst, ◌∙◌, inl, inr, arith, append_assoc, append-nil, take_all}
use Rattle.std.specs.Prelude.{slice_get, Some, nat_lt, if◌then◌else◌}
use Rattle.std.proofs.lemmas.Bool.{cases_lt, lt-ltb, le-ltb}
use Rattle.std.proofs.lemmas.List.{length-append, length-take-le, take-append-le}
use Rattle.std.proofs.lemmas.Option.{slice_get_within}
use Rattle.std.proofs.Math.Seq.{take-append-add}
use Rattle.mf_types.specs.LinkCalls.{Sent, sent_bytes}
use Rattle.wire_packets.specs.declared.packet.Packet.{Packet}
use Rattle.wire_packets.specs.Placed.{Placed}
use Rattle.wire_packets.specs.Spelling.{spelling}
use Rattle.spoken.specs.Speaks.{send_at, Said, so_often, said_bytes, requests_of, IsAnswered, IsFollowed, Speaks, MayGoOn}

-- ---- lists
get_front : {X : Type 0} (xs ys : List X) (i : ℕ) (x : X) → slice_get xs i ≡ Some x → slice_get (xs ++ ys) i ≡ Some x
get_front [] ys i x is = absurd (cc)
get_front (y ∷ xs) ys zero x is = is
get_front (y ∷ xs) ys (suc i) x is = get_front xs ys i x is

-- an element before the end of the front is one of the front
get_before : {X : Type 0} (xs ys : List X) (i : ℕ) (x : X) → slice_get (xs ++ ys) i ≡ Some x → i < length xs → slice_get xs i ≡ Some x
get_before [] ys i x is below = absurd (omega arith)
get_before (y ∷ xs) ys zero x is below = is
get_before (y ∷ xs) ys (suc i) x is below = get_before xs ys i x is (omega arith)

-- the element behind the front
get_seam : {X : Type 0} (xs : List X) (y x : X) (i : ℕ) → slice_get (xs ++ y ∷ []) i ≡ Some x → length xs ≤ i → (i ≡ length xs) × (y ≡ x)
get_seam [] y x zero is above = (refl, cc)
get_seam [] y x (suc i) is above = absurd (cc)
get_seam (z ∷ xs) y x zero is above = absurd (omega arith)
get_seam (z ∷ xs) y x (suc i) is above = let h = get_seam xs y x i is (omega arith) in (ap suc h.0, h.1)

take_more : {X : Type 0} (n : ℕ) (xs : List X) (x : X) → slice_get xs n ≡ Some x → take (n + 1) xs ≡ take n xs ++ x ∷ []
take_more {X} n [] x is = absurd (cc)
take_more {X} zero (y ∷ xs) x is = let e : y ≡ x = cc in ap (λ (z : X). z ∷ []) e
take_more {X} (suc n) (y ∷ xs) x is =
    let e : suc n + 1 ≡ suc (n + 1) = omega arith in
    ap (λ (k : ℕ). take k (y ∷ xs)) e ∙ ap (λ (zs : List X). y ∷ zs) (take_more n xs x is)

-- ---- sends
sent-append : (xs ys : List Sent) → sent_bytes (xs ++ ys) ≡ sent_bytes xs ++ sent_bytes ys
sent-append [] ys = refl
sent-append (x ∷ xs) ys = ap (λ (l : List ℕ). x.bytes ++ l) (sent-append xs ys) ∙ sym (append_assoc x.bytes (sent_bytes xs) (sent_bytes ys))

send_at-front : (xs ys : List Sent) (k : ℕ) (s : Sent) → send_at xs k ≡ Some s → send_at (xs ++ ys) k ≡ Some s
send_at-front [] ys k s is = absurd (cc)
send_at-front (x ∷ xs) ys k s is =
    elim (cases_lt k (length x.bytes)) [
      | inl low ↦
          let test : nat_lt k (length x.bytes) ≡ true = lt-ltb k (length x.bytes) low in
          let old : Some x ≡ Some s = sym (ap (λ b. if b then Some x else send_at xs (k - length x.bytes)) test) ∙ is in
          ap (λ b. if b then Some x else send_at (xs ++ ys) (k - length x.bytes)) test ∙ old
      | inr high ↦
          let test : nat_lt k (length x.bytes) ≡ false = le-ltb k (length x.bytes) high in
          let old : send_at xs (k - length x.bytes) ≡ Some s = sym (ap (λ b. if b then Some x else send_at xs (k - length x.bytes)) test) ∙ is in
          ap (λ b. if b then Some x else send_at (xs ++ ys) (k - length x.bytes)) test ∙ send_at-front xs ys (k - length x.bytes) s old
    ]

-- the first byte of a send that comes last
send_at-seam : (xs : List Sent) (s : Sent) (k : ℕ) → 0 < length s.bytes → k ≡ length (sent_bytes xs) → send_at (xs ++ s ∷ []) k ≡ Some s
send_at-seam [] s k some is =
    let test : nat_lt k (length s.bytes) ≡ true = lt-ltb k (length s.bytes) (omega arith) in
    ap (λ b. if b then Some s else send_at [] (k - length s.bytes)) test
send_at-seam (x ∷ xs) s k some is =
    let whole = length-append x.bytes (sent_bytes xs) in
    let test : nat_lt k (length x.bytes) ≡ false = le-ltb k (length x.bytes) (omega arith) in
    ap (λ b. if b then Some x else send_at (xs ++ s ∷ []) (k - length x.bytes)) test ∙ send_at-seam xs s (k - length x.bytes) some (omega arith)

-- ---- what was said
said-append : (xs ys : List Said) → said_bytes (xs ++ ys) ≡ said_bytes xs ++ said_bytes ys
said-append [] ys = refl
said-append (x ∷ xs) ys =
    ap (λ (l : List ℕ). so_often x.times (spelling x.request) ++ l) (said-append xs ys) ∙ sym (append_assoc (so_often x.times (spelling x.request)) (said_bytes xs) (said_bytes ys))

requests-append : (xs ys : List Said) → requests_of (xs ++ ys) ≡ requests_of xs ++ requests_of ys
requests-append [] ys = refl
requests-append (x ∷ xs) ys = ap (λ (l : List Packet). x.request ∷ l) (requests-append xs ys)

once_more : (n : ℕ) (bytes : List ℕ) → so_often (n + 1) bytes ≡ so_often n bytes ++ bytes
once_more zero bytes = append-nil bytes
once_more (suc n) bytes =
    let e : suc n + 1 ≡ suc (n + 1) = omega arith in
    ap (λ (k : ℕ). so_often k bytes) e ∙ ap (λ (l : List ℕ). bytes ++ l) (once_more n bytes) ∙ sym (append_assoc bytes (so_often n bytes) bytes)

hears_answer : (asked : List Packet) (p : Packet) (before : ℕ) (heard more : List Placed) → IsAnswered asked p before heard → IsAnswered asked p before (heard ++ more)
hears_answer asked p before heard more a =
    record { at = a.at; found = a.found; there = get_front heard more a.at a.found a.there; match = a.match; early = a.early }

pub begins : (requests : List Packet) (heard : List Placed) → Speaks requests [] 0 [] heard
begins requests heard =
    record {
      prefix = refl;
      few = omega arith;
      times = λ i s is. absurd (cc);
      bytes = refl;
      after_match = λ i s is below. absurd (cc);
    }

pub hears : (requests : List Packet) (said : List Said) (missing : ℕ) (sends : List Sent) (heard more : List Placed) → Speaks requests said missing sends heard → Speaks requests said missing sends (heard ++ more)
hears requests said missing sends heard more s =
    record {
      prefix = s.prefix;
      few = s.few;
      times = s.times;
      bytes = s.bytes;
      after_match = λ i x is below.
          let f = s.after_match i x is below in
          record { sent = f.sent; there = f.there; answered = hears_answer (requests_of (take (i + 1) said)) x.request f.sent.taken heard more f.answered };
    }

-- one more send, behind what was said whole
bytes_more : (old new : List Said) (spelt : List ℕ) (sends : List Sent) (sent : Sent) (n : ℕ) → sent_bytes sends ≡ take (length (said_bytes old) - 0) (said_bytes old)
    → said_bytes new ≡ said_bytes old ++ spelt → n ≤ length spelt → sent.bytes ≡ take n spelt
    → sent_bytes (sends ++ sent ∷ []) ≡ take (length (said_bytes new) - (length spelt - n)) (said_bytes new)
bytes_more old new spelt sends sent n before grown fits is =
    let whole : sent_bytes sends ≡ said_bytes old = before ∙ take_all (length (said_bytes old) - 0) (said_bytes old) (omega arith) in
    let long = length-append (said_bytes old) spelt in
    let size : length (said_bytes new) ≡ length (said_bytes old ++ spelt) = ap length grown in
    let count : length (said_bytes new) - (length spelt - n) ≡ length (said_bytes old) + n = omega arith in
    sent-append sends (sent ∷ [])
    ∙ ap (λ (l : List ℕ). l ++ (sent.bytes ++ [])) whole
    ∙ ap (λ (l : List ℕ). said_bytes old ++ l) (append-nil sent.bytes ∙ is)
    ∙ sym (take-append-add (said_bytes old) spelt n)
    ∙ sym (ap (λ (k : ℕ). take k (said_bytes old ++ spelt)) count)
    ∙ sym (ap (take (length (said_bytes new) - (length spelt - n))) grown)

-- what followed still does, where what was said before is the same
followed_more : (before old : List Said) (p : Packet) (sends : List Sent) (sent : Sent) (heard : List Placed) → before ≡ old → IsFollowed old p sends heard → IsFollowed before p (sends ++ sent ∷ []) heard
followed_more before old p sends sent heard same f =
    record {
      sent = f.sent;
      there = ap (λ (l : List Said). send_at (sends ++ sent ∷ []) (length (said_bytes l))) same ∙ send_at-front sends (sent ∷ []) (length (said_bytes old)) f.sent f.there;
      answered = subst (λ (l : List Said). IsAnswered (requests_of l) p f.sent.taken heard) (sym same) f.answered;
    }

pub again : (requests : List Packet) (front : List Said) (p : Packet) (times n : ℕ) (sends : List Sent) (sent : Sent) (heard : List Placed)
    → Speaks requests (front ++ (record { request = p; times = times }) ∷ []) 0 sends heard → times < 8 → 1 ≤ n → n ≤ length (spelling p) → sent.bytes ≡ take n (spelling p)
    → Speaks requests (front ++ (record { request = p; times = times + 1 }) ∷ []) (length (spelling p) - n) (sends ++ sent ∷ []) heard
again requests front p times n sends sent heard s few some fits is =
    let old : Said = record { request = p; times = times } in
    let new : Said = record { request = p; times = times + 1 } in
    let same_length : length (front ++ new ∷ []) ≡ length (front ++ old ∷ []) = length-append front (new ∷ []) ∙ sym (length-append front (old ∷ [])) in
    let long = length-append front (new ∷ []) in
    let grown : said_bytes (front ++ new ∷ []) ≡ said_bytes (front ++ old ∷ []) ++ spelling p =
    said-append front (new ∷ [])
    ∙ ap (λ (l : List ℕ). said_bytes front ++ l) (append-nil (so_often (times + 1) (spelling p)) ∙ once_more times (spelling p) ∙ ap (λ (l : List ℕ). l ++ spelling p) (sym (append-nil (so_often times (spelling p)))))
    ∙ sym (append_assoc (said_bytes front) (so_often times (spelling p) ++ []) (spelling p))
    ∙ ap (λ (l : List ℕ). l ++ spelling p) (sym (said-append front (old ∷ []))) in
    record {
      prefix =
          requests-append front (new ∷ [])
          ∙ sym (requests-append front (old ∷ []))
          ∙ s.prefix
          ∙ ap (λ (k : ℕ). take k requests) (sym same_length);
      few = let h = s.few in omega arith;
      times = λ i x got.
          elim (cases_lt i (length front)) [
            | inl low ↦ s.times i x (get_front front (old ∷ []) i x (get_before front (new ∷ []) i x got low))
            | inr high ↦
                let h = get_seam front new x i got high in
                let before = s.times (length front) old (seam front old) in
                let count : x.times ≡ times + 1 = ap (λ (y : Said). y.times) (sym h.1) in
                let one = before.0 in
                (omega arith, omega arith)
          ];
      bytes = bytes_more (front ++ old ∷ []) (front ++ new ∷ []) (spelling p) sends sent n s.bytes grown fits is;
      after_match = λ i x got below.
          let low : i < length front = omega arith in
          let front_x = get_before front (new ∷ []) i x got low in
          followed_more (take (i + 1) (front ++ new ∷ [])) (take (i + 1) (front ++ old ∷ [])) x.request sends sent heard
          (take-append-le (i + 1) front (new ∷ []) (omega arith) ∙ sym (take-append-le (i + 1) front (old ∷ []) (omega arith)))
          (s.after_match i x (get_front front (old ∷ []) i x front_x) (omega arith));
    }
  where
    seam : {X : Type 0} (xs : List X) (y : X) → slice_get (xs ++ y ∷ []) (length xs) ≡ Some y
    seam [] y = refl
    seam (x ∷ xs) y = seam xs y

pub next : (requests : List Packet) (said : List Said) (p : Packet) (n : ℕ) (sends : List Sent) (sent : Sent) (heard : List Placed)
    → Speaks requests said 0 sends heard → slice_get requests (length said) ≡ Some p → MayGoOn said sent.taken heard → 1 ≤ n → n ≤ length (spelling p) → sent.bytes ≡ take n (spelling p)
    → Speaks requests (said ++ (record { request = p; times = 1 }) ∷ []) (length (spelling p) - n) (sends ++ sent ∷ []) heard
next requests said p n sends sent heard s there answered some fits is =
    let new : Said = record { request = p; times = 1 } in
    let long = length-append said (new ∷ []) in
    let within = slice_get_within requests (length said) p there in
    let grown : said_bytes (said ++ new ∷ []) ≡ said_bytes said ++ spelling p =
    said-append said (new ∷ []) ∙ ap (λ (l : List ℕ). said_bytes said ++ l) (append-nil (spelling p ++ []) ∙ append-nil (spelling p)) in
    let count : length (said ++ new ∷ []) ≡ length said + 1 = omega arith in
    let size : length (take n (spelling p)) ≡ n = length-take-le n (spelling p) fits in
    let sent_size : length sent.bytes ≡ length (take n (spelling p)) = ap length is in
    let whole : sent_bytes sends ≡ said_bytes said = s.bytes ∙ take_all (length (said_bytes said) - 0) (said_bytes said) (omega arith) in
    let sent_long : length (sent_bytes sends) ≡ length (said_bytes said) = ap length whole in
    record {
      prefix =
          requests-append said (new ∷ [])
          ∙ ap (λ (l : List Packet). l ++ p ∷ []) s.prefix
          ∙ sym (take_more (length said) requests p there)
          ∙ ap (λ (k : ℕ). take k requests) (sym count);
      few = omega arith;
      times = λ i x got.
          elim (cases_lt i (length said)) [
            | inl low ↦ s.times i x (get_before said (new ∷ []) i x got low)
            | inr high ↦
                let h = get_seam said new x i got high in
                let one : x.times ≡ 1 = ap (λ (y : Said). y.times) (sym h.1) in
                (omega arith, omega arith)
          ];
      bytes = bytes_more said (said ++ new ∷ []) (spelling p) sends sent n s.bytes grown fits is;
      after_match = λ i x got below.
          let low : i < length said = omega arith in
          let old = get_before said (new ∷ []) i x got low in
          let same : take (i + 1) (said ++ new ∷ []) ≡ take (i + 1) said = take-append-le (i + 1) said (new ∷ []) (omega arith) in
          elim (cases_lt (i + 1) (length said)) [
            | inl more ↦ followed_more (take (i + 1) (said ++ new ∷ [])) (take (i + 1) said) x.request sends sent heard same (s.after_match i x old more)
            | inr last ↦
                let all : take (i + 1) (said ++ new ∷ []) ≡ said = same ∙ take_all (i + 1) said last in
                subst (λ (l : List Said). IsFollowed l x.request (sends ++ sent ∷ []) heard) (sym all)
                (record {
                  sent = sent;
                  there = send_at-seam sends sent (length (said_bytes said)) (omega arith) (sym sent_long);
                  answered = answered i x old (omega arith);
                })
          ];
    }
