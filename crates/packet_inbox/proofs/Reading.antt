-- The kept fact of a reader of packets.
use Rattle.std.proofs.Common.{◌≡◌, ℕ, ◌+◌, ◌-◌, List, [], ◌∷◌, ◌++◌, length, map, drop, refl, sym, ap, ◌∙◌, arith, append_assoc, append-nil}
use Rattle.std.specs.Prelude.{Some, None}
use Rattle.std.proofs.lemmas.List.{length-drop, length-append}
use Rattle.wire_packets.specs.declared.packet.Packet.{Packet}
use Rattle.wire_packets.specs.declared.decoding.Decoded.TheVariants.{Short}
use Rattle.wire_packets.specs.Decoding.{decoded}
use Rattle.wire_packets.specs.Placed.{Placed, placed}
use Rattle.wire_packets.specs.Stream.{unread}
use Rattle.wire_packets.proofs.Streams.{unread-append, unread-short}
use Rattle.wire_packets.proofs.Places.{pieces, streamed, placed-short}
use Rattle.packet_inbox.specs.Reading.{HasRead}
use Rattle.packet_inbox.specs.Taking.{IsFirst, HasNone, TakesFrom}

pub read_begins : (from : ℕ) → HasRead from [] [] []
read_begins from = record { places = ap (λ (m : ℕ). placed m []) (let e : from ≡ from + (0 - 0) = omega arith in e); rest = refl; fewer = omega arith }

pub read_takes : (from : ℕ) (bytes : List ℕ) (taken : List Placed) (p : Packet) (old new : List ℕ) → HasRead from bytes taken old → TakesFrom (Some p) old new
    → HasRead from bytes (taken ++ (record { packet = p; end = from + (length bytes - length new) }) ∷ []) new
read_takes from bytes taken p old new read t =
    let first : IsFirst p t.size old = t.takes in
    let size = length-drop t.size old in
    let short : length new ≡ length old - t.size = ap length t.left ∙ size in
    let inside = t.inside in
    let fewer = read.fewer in
    let end : from + (length bytes - length old) + t.size ≡ from + (length bytes - length new) = omega arith in
    record {
      places =
          read.places
          ∙ ap (λ (ps : List Placed). taken ++ ps) (first.places (from + (length bytes - length old)))
          ∙ ap (λ (m : ℕ). taken ++ (record { packet = p; end = m }) ∷ placed m (drop t.size old)) end
          ∙ ap (λ (zs : List ℕ). taken ++ (record { packet = p; end = from + (length bytes - length new) }) ∷ placed (from + (length bytes - length new)) zs) (sym t.left)
          ∙ sym (append_assoc taken ((record { packet = p; end = from + (length bytes - length new) }) ∷ []) (placed (from + (length bytes - length new)) new));
      rest = read.rest ∙ first.rest ∙ ap unread (sym t.left);
      fewer = omega arith;
    }

none_of : (ps : List Placed) → map (λ (p : Placed). p.packet) ps ≡ [] → ps ≡ []
none_of [] is = refl
none_of (p ∷ ps) is = absurd (cc)

pub read_all : (from : ℕ) (bytes : List ℕ) (taken : List Placed) (old new : List ℕ) → HasRead from bytes taken old → TakesFrom None old new → HasRead from bytes taken new × (placed from bytes ≡ taken)
read_all from bytes taken old new read t =
    let none : HasNone t.size old = t.takes in
    let g : ℕ = from + (length bytes - length old) in
    let left : new ≡ unread old = t.left ∙ none.rest in
    let no_old : placed (from + (length bytes - length old)) old ≡ [] = none_of (placed (from + (length bytes - length old)) old) ((streamed (from + (length bytes - length old)) old []).same ∙ none.none) in
    let short : decoded new ≡ Short = ap decoded left ∙ (streamed 0 old []).rest in
    let no_new : placed (from + (length bytes - length new)) new ≡ [] = placed-short (from + (length bytes - length new)) new short in
    let all : placed from bytes ≡ taken = read.places ∙ ap (λ (ps : List Placed). taken ++ ps) no_old ∙ append-nil taken in
    let few = (streamed 0 old []).fewer in
    let same_size : length new ≡ length (unread old) = ap length left in
    let fewer = read.fewer in (
      record {
        places = all ∙ sym (append-nil taken) ∙ ap (λ (ps : List Placed). taken ++ ps) (sym no_new);
        rest = read.rest ∙ sym left ∙ sym (unread-short new short);
        fewer = omega arith;
      },
      all,
    )

pub read_comes : (from : ℕ) (bytes more : List ℕ) (taken : List Placed) (held : List ℕ) → HasRead from bytes taken held → HasRead from (bytes ++ more) taken (held ++ more)
read_comes from bytes more taken held read =
    let g : ℕ = from + (length bytes - length held) in
    let fewer = read.fewer in
    let short = (streamed 0 held []).fewer in
    let same_rest : length (unread bytes) ≡ length (unread held) = ap length read.rest in
    let whole = length-append bytes more in
    let kept = length-append held more in
    let there : from + (length bytes - length (unread bytes)) ≡ from + (length bytes - length held) + (length held - length (unread held)) = omega arith in
    let begin : from + (length bytes - length held) ≡ from + (length (bytes ++ more) - length (held ++ more)) = omega arith in
    record {
      places =
          pieces from bytes more
          ∙ ap (λ (ps : List Placed). ps ++ placed (from + (length bytes - length (unread bytes))) (unread bytes ++ more)) read.places
          ∙ ap (λ (m : ℕ). (taken ++ placed (from + (length bytes - length held)) held) ++ placed m (unread bytes ++ more)) there
          ∙ ap (λ (zs : List ℕ). (taken ++ placed (from + (length bytes - length held)) held) ++ placed (from + (length bytes - length held) + (length held - length (unread held))) (zs ++ more)) read.rest
          ∙ append_assoc taken (placed (from + (length bytes - length held)) held) (placed (from + (length bytes - length held) + (length held - length (unread held))) (unread held ++ more))
          ∙ ap (λ (ps : List Placed). taken ++ ps) (sym (pieces (from + (length bytes - length held)) held more))
          ∙ ap (λ (m : ℕ). taken ++ placed m (held ++ more)) begin;
      rest = unread-append bytes more ∙ ap (λ (zs : List ℕ). unread (zs ++ more)) read.rest ∙ sym (unread-append held more);
      fewer = omega arith;
    }
