-- What is spelt is read.
use Rattle.std.proofs.Common.{◌≡◌, ℕ, ◌+◌, ◌^◌, ◌<◌, List, ◌++◌, length, take, drop, refl, sym, ap, ◌∙◌, arith}
use Rattle.std.specs.Prelude.{sum}
use Rattle.std.proofs.lemmas.List.{length-append, take_at}
use Rattle.byteorder.specs.Endian.{little_bytes}
use Rattle.byteorder.specs.Numbers.{little_number-reads_back}
use Rattle.wire_packets.specs.declared.packet.Packet.{Packet}
use Rattle.wire_packets.specs.declared.decoding.Decoded.TheVariants.{Whole}
use Rattle.little_endian.specs.Numbers.{AreBytes}
use Rattle.wire_packets.specs.Spelling.{signature, fields, spelling, IsPacket}
use Rattle.little_endian.specs.Numbers.{number}
use Rattle.wire_packets.specs.Decoding.{agrees, size, payload, packet, decoded, BeginsSound}
use Rattle.wire_packets.proofs.Sums.{sum-bytes, AreBytes-append, AreBytes-bytes_low_first}
use Rattle.wire_packets.proofs.Agreement.{zip-append}
use Rattle.wire_packets.proofs.Cases.{decoded-whole, sound_from}

AreBytes-fields : (p : Packet) → AreBytes (fields p)
AreBytes-fields p =
    let a = little_bytes 4 (sum p.payload.items) in
    let b = a ++ little_bytes 4 p.command in
    let c = b ++ little_bytes 2 p.seq in
    let d = c ++ little_bytes 2 p.reply_seq in
    let e = d ++ little_bytes 4 p.flags in
    let a-is = AreBytes-bytes_low_first 0 4 (sum p.payload.items) in
    let b-is = AreBytes-append a (little_bytes 4 p.command) a-is (AreBytes-bytes_low_first 0 4 p.command) in
    let c-is = AreBytes-append b (little_bytes 2 p.seq) b-is (AreBytes-bytes_low_first 0 2 p.seq) in
    let d-is = AreBytes-append c (little_bytes 2 p.reply_seq) c-is (AreBytes-bytes_low_first 0 2 p.reply_seq) in
    let e-is = AreBytes-append d (little_bytes 4 p.flags) d-is (AreBytes-bytes_low_first 0 4 p.flags) in
    AreBytes-append e (little_bytes 4 (length p.payload.items)) e-is (AreBytes-bytes_low_first 0 4 (length p.payload.items))

-- the header check fits its four bytes
check_fits : (p : Packet) → sum signature + sum (fields p) < 256 ^ 4
check_fits p = let bound = sum-bytes (fields p) (AreBytes-fields p) in omega arith

sum_fits : (p : Packet) → IsPacket p → sum p.payload.items < 256 ^ 4
sum_fits p fits =
    let bound = sum-bytes p.payload.items fits.payload in
    let size = fits.size in
    omega arith

abbrev pub made : ℕ → ℕ → ℕ → ℕ → List ℕ → Packet
made c s r f xs = record { command = c; seq = s; reply_seq = r; flags = f; payload = record { items = xs } }

pub same_packet : {c c' s s' r r' f f' : ℕ} {xs ys : List ℕ} → c ≡ c' → s ≡ s' → r ≡ r' → f ≡ f' → xs ≡ ys → made c s r f xs ≡ made c' s' r' f' ys
same_packet {c} {c'} {s} {s'} {r} {r'} {f} {f'} {xs} {ys} a b d e h = cc

-- the parts of a spelling, whatever follows it
check_read : (p : Packet) (rest : List ℕ) → number 4 8 (spelling p ++ rest) ≡ sum signature + sum (fields p)
unfolding number spelling
check_read p rest = little_number-reads_back 4 (sum signature + sum (fields p)) (fields p ++ p.payload.items ++ rest) (check_fits p)

data_read : (p : Packet) (rest : List ℕ) → IsPacket p → number 4 12 (spelling p ++ rest) ≡ sum p.payload.items
unfolding number spelling
data_read p rest fits = little_number-reads_back 4 (sum p.payload.items) (drop 16 (spelling p ++ rest)) (sum_fits p fits)

command_read : (p : Packet) (rest : List ℕ) → IsPacket p → number 4 16 (spelling p ++ rest) ≡ p.command
unfolding number spelling
command_read p rest fits = little_number-reads_back 4 p.command (drop 20 (spelling p ++ rest)) fits.command

seq_read : (p : Packet) (rest : List ℕ) → IsPacket p → number 2 20 (spelling p ++ rest) ≡ p.seq
unfolding number spelling
seq_read p rest fits = little_number-reads_back 2 p.seq (drop 22 (spelling p ++ rest)) fits.seq

reply_seq_read : (p : Packet) (rest : List ℕ) → IsPacket p → number 2 22 (spelling p ++ rest) ≡ p.reply_seq
unfolding number spelling
reply_seq_read p rest fits = little_number-reads_back 2 p.reply_seq (drop 24 (spelling p ++ rest)) fits.reply_seq

flags_read : (p : Packet) (rest : List ℕ) → IsPacket p → number 4 24 (spelling p ++ rest) ≡ p.flags
unfolding number spelling
flags_read p rest fits = little_number-reads_back 4 p.flags (drop 28 (spelling p ++ rest)) (let h = fits.flags in omega arith)

size_read : (p : Packet) (rest : List ℕ) → IsPacket p → size (spelling p ++ rest) ≡ length p.payload.items
unfolding number spelling
size_read p rest fits = little_number-reads_back 4 (length p.payload.items) (drop 32 (spelling p ++ rest)) (let h = fits.size in omega arith)

-- the payload of a spelling, whatever follows it
payload_read : (p : Packet) (rest : List ℕ) → IsPacket p → payload (spelling p ++ rest) ≡ p.payload.items
unfolding spelling
payload_read p rest fits =
    ap (λ (n : ℕ). take n (p.payload.items ++ rest)) (size_read p rest fits) ∙ take_at p.payload.items rest (length p.payload.items) refl

pub length-spelling : (p : Packet) → length (spelling p) ≡ 32 + length p.payload.items
unfolding spelling
length-spelling p = omega arith

spelling_sound : (p : Packet) (rest : List ℕ) → IsPacket p → BeginsSound (spelling p ++ rest)
unfolding agrees spelling
spelling_sound p rest fits =
    record {
      long = omega arith;
      agree = zip-append signature (drop 8 (spelling p ++ rest));
      check = check_read p rest;
      flags = let e = flags_read p rest fits in let h = fits.flags in omega arith;
      size = let e = size_read p rest fits in let h = fits.size in omega arith;
    }

-- what is spelt is read, whatever follows it
pub decoded-spelling : (p : Packet) (rest : List ℕ) → IsPacket p → decoded (spelling p ++ rest) ≡ Whole p (32 + length p.payload.items)
decoded-spelling p rest fits =
    let sound = spelling_sound p rest fits in
    let size_is = size_read p rest fits in
    let len_is = length-spelling p in
    let payload_is = payload_read p rest fits in
    let long : length (spelling p ++ rest) ≡ length (spelling p) + length rest = length-append (spelling p) rest in
    let whole = decoded-whole (spelling p ++ rest) sound.long (sound_from _ sound) (omega arith) (ap sum payload_is ∙ sym (data_read p rest fits)) in
    let packet_is : packet (spelling p ++ rest) ≡ p = same_packet (command_read p rest fits) (seq_read p rest fits) (reply_seq_read p rest fits) (flags_read p rest fits) payload_is in
    whole ∙ ap (λ (q : Packet). Whole q (32 + size (spelling p ++ rest))) packet_is ∙ ap (λ (n : ℕ). Whole p (32 + n)) size_is
