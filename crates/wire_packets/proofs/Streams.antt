-- The packets of a stream, step by step and in pieces.
use Rattle.std.proofs.Common.{◌≡◌, ℕ, zero, suc, ◌+◌, ◌-◌, ◌<◌, ◌≤◌, true, false, List, [], ◌∷◌, ◌++◌, length, take, drop, refl, sym, ap, ◌∙◌, inl, inr, ◌⊎◌, arith}
use Rattle.std.specs.Prelude.{sum}
use Rattle.std.specs.List.{flat_map, AllByRecursion}
use Rattle.std.proofs.lemmas.List.{length-append, length-drop, drop-append-le, take-append-le, drop_at, append_assoc}
use Rattle.std.proofs.lemmas.List.Concat.{flat_map-cons}
use Rattle.wire_packets.specs.declared.packet.Packet.{Packet}
use Rattle.wire_packets.specs.declared.decoding.Decoded.{Decoded}
use Rattle.wire_packets.specs.declared.decoding.Decoded.TheVariants.{Whole, Short, Damaged}
use Rattle.wire_packets.specs.Spelling.{spelling, signature, IsPacket}
use Rattle.little_endian.specs.Numbers.{number}
use Rattle.wire_packets.specs.Decoding.{agrees, size, header_sum, is_sound, payload, packet, decoded}
use Rattle.wire_packets.specs.Stream.{packets_after, packets_within, packets, rest_after, rest_within, unread}
use Rattle.std.specs.List.{list_all}
use Rattle.wire_packets.proofs.Agreement.{same, zip-front, zip-less}
use Rattle.wire_packets.proofs.Cases.{cut_header, no_header, unsound, cut_payload, broken, whole, beginning, decoded-few, decoded-unsound, decoded-broken, decoded-whole}
use Rattle.wire_packets.proofs.Numbers.{number-append}
use Rattle.wire_packets.proofs.Spelt.{decoded-spelling, length-spelling, same_packet}
use Rattle.std.proofs.lemmas.Bool.{false_from_ne_true, cases_lt, and_left}
use Rattle.wire_packets.proofs.Read.{answers}

-- how much of some bytes an answer takes away
pub taken_whole : (xs : List ℕ) (p : Packet) (k : ℕ) → decoded xs ≡ Whole p k → (0 < k) × (k ≤ length xs)
taken_whole xs p k is =
    elim (beginning xs) [
      | cut_header few agree e ↦ absurd (cc)
      | no_header few agree e ↦ absurd (cc)
      | unsound long not e ↦ absurd (cc)
      | cut_payload long sound cut e ↦ absurd (cc)
      | broken long sound there differs e ↦ absurd (cc)
      | whole long sound there same e ↦ let n-is : 32 + size xs ≡ k = cc in (omega arith, omega arith)
    ]

pub taken_damaged : (xs : List ℕ) → decoded xs ≡ Damaged → 0 < length xs
unfolding decoded agrees
taken_damaged [] is = absurd (cc)
taken_damaged (x ∷ xs) is = omega arith

empty_short : decoded [] ≡ Short
unfolding decoded agrees
empty_short = refl

within_whole : (n : ℕ) (xs : List ℕ) (p : Packet) (k : ℕ) → decoded xs ≡ Whole p k → packets_within (suc n) xs ≡ p ∷ packets_within n (drop k xs)
unfolding packets_within
within_whole n xs p k is = ap (λ (d : Decoded). packets_after d (λ (j : ℕ). packets_within n (drop j xs))) is

within_short : (n : ℕ) (xs : List ℕ) → decoded xs ≡ Short → packets_within n xs ≡ []
unfolding packets_within
within_short zero xs is = refl
within_short (suc n) xs is = ap (λ (d : Decoded). packets_after d (λ (j : ℕ). packets_within n (drop j xs))) is

within_damaged : (n : ℕ) (xs : List ℕ) → decoded xs ≡ Damaged → packets_within (suc n) xs ≡ packets_within n (drop 1 xs)
unfolding packets_within
within_damaged n xs is = ap (λ (d : Decoded). packets_after d (λ (j : ℕ). packets_within n (drop j xs))) is

rest_whole : (n : ℕ) (xs : List ℕ) (p : Packet) (k : ℕ) → decoded xs ≡ Whole p k → rest_within (suc n) xs ≡ rest_within n (drop k xs)
unfolding rest_within
rest_whole n xs p k is = ap (λ (d : Decoded). rest_after d xs (λ (j : ℕ). rest_within n (drop j xs))) is

rest_short : (n : ℕ) (xs : List ℕ) → decoded xs ≡ Short → rest_within n xs ≡ xs
unfolding rest_within
rest_short zero xs is = refl
rest_short (suc n) xs is = ap (λ (d : Decoded). rest_after d xs (λ (j : ℕ). rest_within n (drop j xs))) is

rest_damaged : (n : ℕ) (xs : List ℕ) → decoded xs ≡ Damaged → rest_within (suc n) xs ≡ rest_within n (drop 1 xs)
unfolding rest_within
rest_damaged n xs is = ap (λ (d : Decoded). rest_after d xs (λ (j : ℕ). rest_within n (drop j xs))) is

nothing : (xs : List ℕ) → length xs ≤ 0 → decoded xs ≡ Short
nothing [] few = empty_short
nothing (x ∷ xs) few = absurd (omega arith)

-- what is left is no longer than one less
shorter : (n k : ℕ) (xs : List ℕ) → length xs ≤ suc n → 0 < k → length (drop k xs) ≤ n
shorter n k xs fits some = let e : length (drop k xs) ≡ length xs - k = length-drop k xs in omega arith

-- it doesn't matter how many bytes are allowed, if all are
pub packets_within-more : (n m : ℕ) (xs : List ℕ) → length xs ≤ n → length xs ≤ m → packets_within n xs ≡ packets_within m xs
packets_within-more zero m xs few fits = within_short zero xs (nothing xs few) ∙ sym (within_short m xs (nothing xs few))
packets_within-more (suc n) zero xs fits few = within_short (suc n) xs (nothing xs few) ∙ sym (within_short zero xs (nothing xs few))
packets_within-more (suc n) (suc m) xs left right =
    elim (answers xs) [
      | inl found ↦
          let some = taken_whole xs found.0 found.1 found.2 in
          within_whole n xs found.0 found.1 found.2
          ∙ ap (λ (ps : List Packet). found.0 ∷ ps) (packets_within-more n m (drop found.1 xs) (shorter n found.1 xs left some.0) (shorter m found.1 xs right some.0))
          ∙ sym (within_whole m xs found.0 found.1 found.2)
      | inr other ↦ elim other [
        | inl is ↦ within_short (suc n) xs is ∙ sym (within_short (suc m) xs is)
        | inr is ↦
            within_damaged n xs is
            ∙ packets_within-more n m (drop 1 xs) (shorter n 1 xs left (omega arith)) (shorter m 1 xs right (omega arith))
            ∙ sym (within_damaged m xs is)
      ]
    ]

pub rest_within-more : (n m : ℕ) (xs : List ℕ) → length xs ≤ n → length xs ≤ m → rest_within n xs ≡ rest_within m xs
rest_within-more zero m xs few fits = rest_short zero xs (nothing xs few) ∙ sym (rest_short m xs (nothing xs few))
rest_within-more (suc n) zero xs fits few = rest_short (suc n) xs (nothing xs few) ∙ sym (rest_short zero xs (nothing xs few))
rest_within-more (suc n) (suc m) xs left right =
    elim (answers xs) [
      | inl found ↦
          let some = taken_whole xs found.0 found.1 found.2 in
          rest_whole n xs found.0 found.1 found.2
          ∙ rest_within-more n m (drop found.1 xs) (shorter n found.1 xs left some.0) (shorter m found.1 xs right some.0)
          ∙ sym (rest_whole m xs found.0 found.1 found.2)
      | inr other ↦ elim other [
        | inl is ↦ rest_short (suc n) xs is ∙ sym (rest_short (suc m) xs is)
        | inr is ↦
            rest_damaged n xs is
            ∙ rest_within-more n m (drop 1 xs) (shorter n 1 xs left (omega arith)) (shorter m 1 xs right (omega arith))
            ∙ sym (rest_damaged m xs is)
      ]
    ]

-- the steps of reading a stream
pub packets-whole : (xs : List ℕ) (p : Packet) (k : ℕ) → decoded xs ≡ Whole p k → packets xs ≡ p ∷ packets (drop k xs)
packets-whole xs p k is =
    let some = taken_whole xs p k is in
    packets_within-more (length xs) (suc (length xs)) xs (omega arith) (omega arith)
    ∙ within_whole (length xs) xs p k is
    ∙ ap (λ (ps : List Packet). p ∷ ps) (packets_within-more (length xs) (length (drop k xs)) (drop k xs) (let e : length (drop k xs) ≡ length xs - k = length-drop k xs in omega arith) (omega arith))

pub packets-short : (xs : List ℕ) → decoded xs ≡ Short → packets xs ≡ []
packets-short xs is = within_short (length xs) xs is

pub packets-damaged : (xs : List ℕ) → decoded xs ≡ Damaged → packets xs ≡ packets (drop 1 xs)
packets-damaged xs is =
    packets_within-more (length xs) (suc (length xs)) xs (omega arith) (omega arith)
    ∙ within_damaged (length xs) xs is
    ∙ packets_within-more (length xs) (length (drop 1 xs)) (drop 1 xs) (let e : length (drop 1 xs) ≡ length xs - 1 = length-drop 1 xs in omega arith) (omega arith)

pub unread-whole : (xs : List ℕ) (p : Packet) (k : ℕ) → decoded xs ≡ Whole p k → unread xs ≡ unread (drop k xs)
unread-whole xs p k is =
    rest_within-more (length xs) (suc (length xs)) xs (omega arith) (omega arith)
    ∙ rest_whole (length xs) xs p k is
    ∙ rest_within-more (length xs) (length (drop k xs)) (drop k xs) (let e : length (drop k xs) ≡ length xs - k = length-drop k xs in omega arith) (omega arith)

pub unread-short : (xs : List ℕ) → decoded xs ≡ Short → unread xs ≡ xs
unread-short xs is = rest_short (length xs) xs is

pub unread-damaged : (xs : List ℕ) → decoded xs ≡ Damaged → unread xs ≡ unread (drop 1 xs)
unread-damaged xs is =
    rest_within-more (length xs) (suc (length xs)) xs (omega arith) (omega arith)
    ∙ rest_damaged (length xs) xs is
    ∙ rest_within-more (length xs) (length (drop 1 xs)) (drop 1 xs) (let e : length (drop 1 xs) ≡ length xs - 1 = length-drop 1 xs in omega arith) (omega arith)

-- the joined spellings of packets are read as these packets
pub packets-spellings : (ps : List Packet) (rest : List ℕ) → AllByRecursion IsPacket ps → packets (flat_map spelling ps ++ rest) ≡ ps ++ packets rest
packets-spellings [] rest all = refl
packets-spellings (p ∷ ps) rest all =
    let more = flat_map spelling ps ++ rest in
    let joined : flat_map spelling (p ∷ ps) ++ rest ≡ spelling p ++ more = ap (λ (xs : List ℕ). xs ++ rest) (flat_map-cons spelling p ps) ∙ append_assoc (spelling p) (flat_map spelling ps) rest in
    let left : drop (32 + length p.payload.items) (spelling p ++ more) ≡ more = drop_at (spelling p) more (32 + length p.payload.items) (length-spelling p) in
    ap packets joined
    ∙ packets-whole (spelling p ++ more) p (32 + length p.payload.items) (decoded-spelling p more all.0)
    ∙ ap (λ (xs : List ℕ). p ∷ packets xs) left
    ∙ ap (λ (qs : List Packet). p ∷ qs) (packets-spellings ps rest all.1)

-- ---- more bytes behind
agrees-more : (xs ys : List ℕ) → agrees (xs ++ ys) ≡ true → agrees xs ≡ true
unfolding agrees
agrees-more xs ys agree = zip-less signature xs ys agree

no_header_more : (xs ys : List ℕ) → agrees xs ≡ false → agrees (xs ++ ys) ≡ false
no_header_more xs ys not = false_from_ne_true (agrees (xs ++ ys)) (λ (agree : agrees (xs ++ ys) ≡ true). let e = agrees-more xs ys agree in absurd (cc))

unsound_since : (xs : List ℕ) → agrees xs ≡ false → is_sound xs ≡ false
unfolding is_sound
unsound_since xs not = and_left _ _ (and_left _ _ (and_left _ _ not))

agrees-long : (xs ys : List ℕ) → 8 ≤ length xs → agrees (xs ++ ys) ≡ agrees xs
unfolding agrees
agrees-long xs ys long = ap (list_all same) (zip-front signature xs ys long)

header_sum-more : (xs ys : List ℕ) → 32 ≤ length xs → header_sum (xs ++ ys) ≡ header_sum xs
header_sum-more xs ys long =
    let e : length (drop 12 xs) ≡ length xs - 12 = length-drop 12 xs in
    let front = take-append-le 8 xs ys (omega arith) in
    let behind = ap (take 20) (drop-append-le 12 xs ys (omega arith)) ∙ take-append-le 20 (drop 12 xs) ys (omega arith) in
    ap (λ (zs : List ℕ). sum zs + sum (take 20 (drop 12 (xs ++ ys)))) front ∙ ap (λ (zs : List ℕ). sum (take 8 xs) + sum zs) behind

sound-more : (xs ys : List ℕ) → 32 ≤ length xs → is_sound (xs ++ ys) ≡ is_sound xs
unfolding is_sound
sound-more xs ys long =
    rw (agrees-long xs ys (omega arith), number-append 4 8 xs ys (omega arith), header_sum-more xs ys long, number-append 4 24 xs ys (omega arith), number-append 4 28 xs ys (omega arith)) refl

payload-more : (xs ys : List ℕ) → 32 + size xs ≤ length xs → payload (xs ++ ys) ≡ payload xs
payload-more xs ys there =
    let e : length (drop 32 xs) ≡ length xs - 32 = length-drop 32 xs in
    ap (λ (n : ℕ). take n (drop 32 (xs ++ ys))) (number-append 4 28 xs ys (omega arith))
    ∙ ap (take (size xs)) (drop-append-le 32 xs ys (omega arith))
    ∙ take-append-le (size xs) (drop 32 xs) ys (omega arith)

packet-more : (xs ys : List ℕ) → 32 + size xs ≤ length xs → packet (xs ++ ys) ≡ packet xs
packet-more xs ys there =
    same_packet (number-append 4 16 xs ys (omega arith)) (number-append 2 20 xs ys (omega arith)) (number-append 2 22 xs ys (omega arith)) (number-append 4 24 xs ys (omega arith)) (payload-more xs ys there)

whole-more : (xs ys : List ℕ) → 32 ≤ length xs → is_sound xs ≡ true → 32 + size xs ≤ length xs → sum (payload xs) ≡ number 4 12 xs → decoded (xs ++ ys) ≡ Whole (packet xs) (32 + size xs)
whole-more xs ys long sound there same =
    let e = length-append xs ys in
    let size-is : size (xs ++ ys) ≡ size xs = number-append 4 28 xs ys (omega arith) in
    decoded-whole (xs ++ ys) (omega arith) (sound-more xs ys long ∙ sound) (omega arith) (ap sum (payload-more xs ys there) ∙ same ∙ sym (number-append 4 12 xs ys (omega arith)))
    ∙ ap (λ (p : Packet). Whole p (32 + size (xs ++ ys))) (packet-more xs ys there)
    ∙ ap (λ (n : ℕ). Whole (packet xs) (32 + n)) size-is

broken-more : (xs ys : List ℕ) → 32 ≤ length xs → is_sound xs ≡ true → 32 + size xs ≤ length xs → (sum (payload xs) ≡ number 4 12 xs → ⊥) → decoded (xs ++ ys) ≡ Damaged
broken-more xs ys long sound there differs =
    let e = length-append xs ys in
    let size-is : size (xs ++ ys) ≡ size xs = number-append 4 28 xs ys (omega arith) in
    decoded-broken (xs ++ ys) (omega arith) (sound-more xs ys long ∙ sound) (omega arith)
    (λ (same : sum (payload (xs ++ ys)) ≡ number 4 12 (xs ++ ys)). differs (sym (ap sum (payload-more xs ys there)) ∙ same ∙ number-append 4 12 xs ys (omega arith)))

no_header_stays : (xs ys : List ℕ) → length xs < 32 → agrees xs ≡ false → decoded (xs ++ ys) ≡ Damaged
no_header_stays xs ys few not =
    let disagree = no_header_more xs ys not in
    elim (cases_lt (length (xs ++ ys)) 32) [
      | inl still ↦ decoded-few (xs ++ ys) false still disagree
      | inr long ↦ decoded-unsound (xs ++ ys) long (unsound_since (xs ++ ys) disagree)
    ]

-- an answer other than Short stands, whatever comes behind
pub decoded-append : (xs ys : List ℕ) → (decoded xs ≡ Short) ⊎ (decoded (xs ++ ys) ≡ decoded xs)
decoded-append xs ys =
    elim (beginning xs) [
      | cut_header few agree e ↦ inl e
      | no_header few not e ↦ inr (no_header_stays xs ys few not ∙ sym e)
      | unsound long not e ↦ inr (decoded-unsound (xs ++ ys) (omega (arith, length-append xs ys)) (sound-more xs ys long ∙ not) ∙ sym e)
      | cut_payload long sound cut e ↦ inl e
      | broken long sound there differs e ↦ inr (broken-more xs ys long sound there differs ∙ sym e)
      | whole long sound there same e ↦ inr (whole-more xs ys long sound there same ∙ sym e)
    ]

-- packets come piece by piece: those of the first piece, and then those of what it left with the next
abbrev InPieces : List ℕ → List ℕ → Type 0
InPieces xs ys = (packets (xs ++ ys) ≡ packets xs ++ packets (unread xs ++ ys)) × (unread (xs ++ ys) ≡ unread (unread xs ++ ys))

pieces_short : (xs ys : List ℕ) → decoded xs ≡ Short → InPieces xs ys
pieces_short xs ys is = (
  ap (λ (zs : List ℕ). packets (zs ++ ys)) (sym (unread-short xs is)) ∙ ap (λ (ps : List Packet). ps ++ packets (unread xs ++ ys)) (sym (packets-short xs is)),
  ap (λ (zs : List ℕ). unread (zs ++ ys)) (sym (unread-short xs is)),
)

pieces_whole : (xs ys : List ℕ) (p : Packet) (k : ℕ) → decoded xs ≡ Whole p k → decoded (xs ++ ys) ≡ Whole p k → InPieces (drop k xs) ys → InPieces xs ys
pieces_whole xs ys p k is more rest =
    let some = taken_whole xs p k is in
    let moved : drop k (xs ++ ys) ≡ drop k xs ++ ys = drop-append-le k xs ys some.1 in (
      packets-whole (xs ++ ys) p k more
          ∙ ap (λ (zs : List ℕ). p ∷ packets zs) moved
          ∙ ap (λ (ps : List Packet). p ∷ ps) rest.0
          ∙ ap (λ (zs : List ℕ). p ∷ packets (drop k xs) ++ packets (zs ++ ys)) (sym (unread-whole xs p k is))
          ∙ ap (λ (ps : List Packet). ps ++ packets (unread xs ++ ys)) (sym (packets-whole xs p k is)),
      unread-whole (xs ++ ys) p k more
          ∙ ap (λ (zs : List ℕ). unread zs) moved
          ∙ rest.1
          ∙ ap (λ (zs : List ℕ). unread (zs ++ ys)) (sym (unread-whole xs p k is)),
    )

pieces_damaged : (xs ys : List ℕ) → decoded xs ≡ Damaged → decoded (xs ++ ys) ≡ Damaged → InPieces (drop 1 xs) ys → InPieces xs ys
pieces_damaged xs ys is more rest =
    let some = taken_damaged xs is in
    let moved : drop 1 (xs ++ ys) ≡ drop 1 xs ++ ys = drop-append-le 1 xs ys (omega arith) in (
      packets-damaged (xs ++ ys) more
          ∙ ap (λ (zs : List ℕ). packets zs) moved
          ∙ rest.0
          ∙ ap (λ (zs : List ℕ). packets (drop 1 xs) ++ packets (zs ++ ys)) (sym (unread-damaged xs is))
          ∙ ap (λ (ps : List Packet). ps ++ packets (unread xs ++ ys)) (sym (packets-damaged xs is)),
      unread-damaged (xs ++ ys) more
          ∙ ap (λ (zs : List ℕ). unread zs) moved
          ∙ rest.1
          ∙ ap (λ (zs : List ℕ). unread (zs ++ ys)) (sym (unread-damaged xs is)),
    )

-- an answer other than Short stands, whatever comes behind
stands : (xs ys : List ℕ) (d : Decoded) → decoded xs ≡ d → (d ≡ Short → ⊥) → decoded (xs ++ ys) ≡ d
stands xs ys d is other = elim (decoded-append xs ys) [ inl short ↦ absurd (other (sym is ∙ short)) | inr same ↦ same ∙ is ]

pieces_within : (n : ℕ) (xs ys : List ℕ) → length xs ≤ n → InPieces xs ys
pieces_within zero xs ys few = pieces_short xs ys (nothing xs few)
pieces_within (suc n) xs ys fits =
    elim (answers xs) [
      | inl found ↦
          pieces_whole xs ys found.0 found.1 found.2 (stands xs ys (Whole found.0 found.1) found.2 (λ (e : Whole found.0 found.1 ≡ Short). absurd (cc)))
          (pieces_within n (drop found.1 xs) ys (shorter n found.1 xs fits (taken_whole xs found.0 found.1 found.2).0))
      | inr other ↦ elim other [
        | inl is ↦ pieces_short xs ys is
        | inr is ↦
            pieces_damaged xs ys is (stands xs ys Damaged is (λ (e : Damaged ≡ Short). absurd (cc)))
            (pieces_within n (drop 1 xs) ys (shorter n 1 xs fits (omega arith)))
      ]
    ]

-- packets come piece by piece: those of the first piece, and then those of what it left with the next
pub packets-append : (xs ys : List ℕ) → packets (xs ++ ys) ≡ packets xs ++ packets (unread xs ++ ys)
packets-append xs ys = (pieces_within (length xs) xs ys (omega arith)).0

pub unread-append : (xs ys : List ℕ) → unread (xs ++ ys) ≡ unread (unread xs ++ ys)
unread-append xs ys = (pieces_within (length xs) xs ys (omega arith)).1
