-- What is read is spelt so.
use Rattle.std.proofs.Common.{◌≡◌, ℕ, ◌+◌, ◌≤◌, List, [], ◌∷◌, ◌++◌, length, take, drop, true, refl, inl, inr, ◌⊎◌, sym, ap, ◌∙◌, subst, zero, suc, ◌-◌, arith}
use Rattle.std.specs.Prelude.{sum}
use Rattle.std.proofs.Math.Seq.{take-add}
use Rattle.std.proofs.lemmas.List.{take-append-drop, length-take, length-take-le, length-drop, drop-drop}
use Rattle.byteorder.specs.Endian.{little_bytes}
use Rattle.wire_packets.specs.declared.packet.Packet.{Packet}
use Rattle.little_endian.specs.Numbers.{AreBytes}
use Rattle.wire_packets.specs.Spelling.{signature, fields, spelling, IsPacket, Spells}
use Rattle.little_endian.specs.Numbers.{number}
use Rattle.wire_packets.specs.Decoding.{agrees, size, is_sound, payload, packet, BeginsSound}
use Rattle.wire_packets.proofs.Agreement.{take-zip}
use Rattle.wire_packets.specs.declared.decoding.Decoded.{Decoded}
use Rattle.wire_packets.specs.declared.decoding.Decoded.TheVariants.{Whole, Short, Damaged}
use Rattle.wire_packets.specs.Decoding.{decoded, IsShort}
use Rattle.wire_packets.proofs.Cases.{cut_header, no_header, unsound, cut_payload, broken, whole, beginning, sound_parts, decoded-few, decoded-cut, sound_from}
use Rattle.wire_packets.proofs.Spelt.{decoded-spelling, length-spelling}
use Rattle.wire_packets.proofs.Numbers.{bytes_at_2, bytes_at_4, number-lt, AreBytes-drop}

-- 20 bytes by their fields
split_fields : (xs : List ℕ) → take 20 xs ≡ take 4 xs ++ take 4 (drop 4 xs) ++ take 2 (drop 8 xs) ++ take 2 (drop 10 xs) ++ take 4 (drop 12 xs) ++ take 4 (drop 16 xs)
split_fields xs =
    take-add 16 4 xs
    ∙ ap (λ (ys : List ℕ). ys ++ take 4 (drop 16 xs)) (take-add 12 4 xs
    ∙ ap (λ (ys : List ℕ). ys ++ take 4 (drop 12 xs)) (take-add 10 2 xs
    ∙ ap (λ (ys : List ℕ). ys ++ take 2 (drop 10 xs)) (take-add 8 2 xs
    ∙ ap (λ (ys : List ℕ). ys ++ take 2 (drop 8 xs)) (take-add 4 4 xs))))

-- the fields that stand in a header
fields_read : (xs : List ℕ) → AreBytes xs → 32 ≤ length xs
    → take 20 (drop 12 xs) ≡ little_bytes 4 (number 4 12 xs) ++ little_bytes 4 (number 4 16 xs) ++ little_bytes 2 (number 2 20 xs)
    ++ little_bytes 2 (number 2 22 xs) ++ little_bytes 4 (number 4 24 xs) ++ little_bytes 4 (number 4 28 xs)
fields_read xs bytes long =
    let at12 = bytes_at_4 12 xs bytes (omega arith) in
    let at16 = ap (take 4) (drop-drop 4 12 xs) ∙ bytes_at_4 16 xs bytes (omega arith) in
    let at20 = ap (take 2) (drop-drop 8 12 xs) ∙ bytes_at_2 20 xs bytes (omega arith) in
    let at22 = ap (take 2) (drop-drop 10 12 xs) ∙ bytes_at_2 22 xs bytes (omega arith) in
    let at24 = ap (take 4) (drop-drop 12 12 xs) ∙ bytes_at_4 24 xs bytes (omega arith) in
    let at28 = ap (take 4) (drop-drop 16 12 xs) ∙ bytes_at_4 28 xs bytes (omega arith) in
    let split = split_fields (drop 12 xs) in
    cc

abbrev fields_by : List ℕ → ℕ → ℕ → List ℕ
fields_by xs check size =
    little_bytes 4 check ++ little_bytes 4 (number 4 16 xs) ++ little_bytes 2 (number 2 20 xs)
    ++ little_bytes 2 (number 2 22 xs) ++ little_bytes 4 (number 4 24 xs) ++ little_bytes 4 size

-- the fields of the packet that is read are those that stand there
fields_again : (xs : List ℕ) → AreBytes xs → 32 + size xs ≤ length xs → sum (payload xs) ≡ number 4 12 xs → fields (packet xs) ≡ take 20 (drop 12 xs)
fields_again xs bytes there same =
    let rest : length (drop 32 xs) ≡ length xs - 32 = length-drop 32 xs in
    let size_is : length (payload xs) ≡ number 4 28 xs = length-take-le (size xs) (drop 32 xs) (omega arith) in
    let left : fields_by xs (sum (payload xs)) (length (payload xs)) ≡ fields_by xs (number 4 12 xs) (length (payload xs)) = ap (λ (n : ℕ). fields_by xs n (length (payload xs))) same in
    let right : fields_by xs (number 4 12 xs) (length (payload xs)) ≡ fields_by xs (number 4 12 xs) (number 4 28 xs) = ap (λ (n : ℕ). fields_by xs (number 4 12 xs) n) size_is in
    left ∙ right ∙ sym (fields_read xs bytes (omega arith))

abbrev spelt_by : List ℕ → ℕ → List ℕ → List ℕ → List ℕ
spelt_by front check behind payload = (front ++ little_bytes 4 check ++ behind) ++ payload

-- the bytes of a packet in parts
parts_of : (xs : List ℕ) (n : ℕ) → take (32 + n) xs ≡ (take 8 xs ++ take 4 (drop 8 xs) ++ take 20 (drop 12 xs)) ++ take n (drop 32 xs)
parts_of xs n =
    take-add 32 n xs
    ∙ ap (λ (ys : List ℕ). ys ++ take n (drop 32 xs)) (take-add 12 20 xs
    ∙ ap (λ (ys : List ℕ). ys ++ take 20 (drop 12 xs)) (take-add 8 4 xs))

-- what is read is spelt so
spelt_again : (xs : List ℕ) → AreBytes xs → BeginsSound xs → 32 + size xs ≤ length xs → sum (payload xs) ≡ number 4 12 xs → take (32 + size xs) xs ≡ spelling (packet xs)
unfolding agrees spelling
spelt_again xs bytes sound there same =
    let fields_are = fields_again xs bytes there same in
    let front : take 8 xs ≡ signature = take-zip signature xs sound.agree (omega (arith, sound.long)) in
    let check_is : number 4 8 xs ≡ sum signature + sum (fields (packet xs)) =
    sound.check ∙ ap (λ (ys : List ℕ). sum ys + sum (take 20 (drop 12 xs))) front ∙ ap (λ (ys : List ℕ). sum signature + sum ys) (sym fields_are) in
    let at8 : take 4 (drop 8 xs) ≡ little_bytes 4 (number 4 8 xs) = bytes_at_4 8 xs bytes (omega (arith, sound.long)) in
    parts_of xs (size xs)
    ∙ ap (λ (ys : List ℕ). (take 8 xs ++ ys ++ take 20 (drop 12 xs)) ++ payload xs) at8
    ∙ ap (λ (ys : List ℕ). spelt_by ys (number 4 8 xs) (take 20 (drop 12 xs)) (payload xs)) front
    ∙ ap (λ (n : ℕ). spelt_by signature n (take 20 (drop 12 xs)) (payload xs)) check_is
    ∙ ap (λ (ys : List ℕ). spelt_by signature (sum signature + sum (fields (packet xs))) ys (payload xs)) (sym fields_are)

AreBytes-take : (n : ℕ) (xs : List ℕ) → AreBytes xs → AreBytes (take n xs)
AreBytes-take zero xs bytes i = omega arith
AreBytes-take (suc n) [] bytes i = omega arith
AreBytes-take (suc n) (x ∷ xs) bytes zero = bytes 0
AreBytes-take (suc n) (x ∷ xs) bytes (suc i) = AreBytes-take n xs (λ j. bytes (suc j)) i

is_packet : (xs : List ℕ) → AreBytes xs → BeginsSound xs → IsPacket (packet xs)
is_packet xs bytes sound =
    record {
      command = omega (arith, number-lt 4 16 xs bytes);
      seq = omega (arith, number-lt 2 20 xs bytes);
      reply_seq = omega (arith, number-lt 2 22 xs bytes);
      flags = sound.flags;
      size = omega (arith, sound.size, length-take (size xs) (drop 32 xs));
      payload = AreBytes-take (size xs) (drop 32 xs) (AreBytes-drop 32 xs bytes);
    }

-- which packet is read, and what of it
pub record Reads (xs : List ℕ) (p : Packet) (n : ℕ) : Type 0 where
  pub spells : Spells p (take n xs)
  pub within : n ≤ length xs
  pub size : n ≡ 32 + length p.payload.items

reads_whole : (xs : List ℕ) → AreBytes xs → 32 ≤ length xs → is_sound xs ≡ true → 32 + size xs ≤ length xs → sum (payload xs) ≡ number 4 12 xs → Reads xs (packet xs) (32 + size xs)
reads_whole xs bytes long is there same =
    let sound = sound_parts xs long is in
    let rest : length (drop 32 xs) ≡ length xs - 32 = length-drop 32 xs in
    record {
      spells = record { packet = is_packet xs bytes sound; spelt = spelt_again xs bytes sound there same };
      within = there;
      size = ap (λ (n : ℕ). 32 + n) (sym (length-take-le (size xs) (drop 32 xs) (omega arith)));
    }

-- what is answered as a packet is spelt at the front
pub whole_read : (xs : List ℕ) → AreBytes xs → (p : Packet) (n : ℕ) → decoded xs ≡ Whole p n → Reads xs p n
whole_read xs bytes p n is =
    elim (beginning xs) [
      | cut_header few agree e ↦ absurd (cc)
      | no_header few agree e ↦ absurd (cc)
      | unsound long not e ↦ absurd (cc)
      | cut_payload long sound cut e ↦ absurd (cc)
      | broken long sound there differs e ↦ absurd (cc)
      | whole long sound there same e ↦
          let p-is : packet xs ≡ p = cc in
          let n-is : 32 + size xs ≡ n = cc in
          let read = reads_whole xs bytes long sound there same in
          subst (λ (q : Packet). Reads xs q n) p-is (subst (λ (m : ℕ). Reads xs (packet xs) m) n-is read)
    ]

-- what is spelt at the front is answered
pub read_whole : (xs : List ℕ) (p : Packet) (n : ℕ) → Spells p (take n xs) → n ≤ length xs → decoded xs ≡ Whole p n
read_whole xs p n spells within =
    let n-is : n ≡ 32 + length p.payload.items = sym (length-take-le n xs within) ∙ ap length spells.spelt ∙ length-spelling p in
    let split : xs ≡ spelling p ++ drop n xs = sym (take-append-drop n xs) ∙ ap (λ (ys : List ℕ). ys ++ drop n xs) spells.spelt in
    ap decoded split ∙ decoded-spelling p (drop n xs) spells.packet ∙ ap (λ (m : ℕ). Whole p m) (sym n-is)

-- short bytes are answered so, and no others
pub short_read : (xs : List ℕ) → decoded xs ≡ Short → IsShort xs
short_read xs is =
    elim (beginning xs) [
      | cut_header few agree e ↦ inl (few, agree)
      | no_header few agree e ↦ absurd (cc)
      | unsound long not e ↦ absurd (cc)
      | cut_payload long sound cut e ↦ inr (sound_parts xs long sound, cut)
      | broken long sound there differs e ↦ absurd (cc)
      | whole long sound there same e ↦ absurd (cc)
    ]

pub read_short : (xs : List ℕ) → IsShort xs → decoded xs ≡ Short
read_short xs (inl few) = decoded-few xs true few.0 few.1
read_short xs (inr cut) = decoded-cut xs cut.0.long (sound_from xs cut.0) cut.1

-- the answer is one of the three
pub answers : (xs : List ℕ) → ((p : Packet) × (n : ℕ) × (decoded xs ≡ Whole p n)) ⊎ ((decoded xs ≡ Short) ⊎ (decoded xs ≡ Damaged))
answers xs = of (decoded xs)
  where
    of : (d : Decoded) → ((p : Packet) × (n : ℕ) × (d ≡ Whole p n)) ⊎ ((d ≡ Short) ⊎ (d ≡ Damaged))
    of (Whole p n) = inl (p, n, refl)
    of Short = inr (inl refl)
    of Damaged = inr (inr refl)
