-- One send more.
use Rattle.std.proofs.Common.{◌≡◌, ℕ, ◌+◌, ◌-◌, List, [], ◌∷◌, ◌++◌, length, take, drop, sym, ap, ◌∙◌, arith}
use Rattle.std.proofs.lemmas.List.{take_all, take-append-drop, take-append-le, drop-append-le, length-drop, nil_from_length}
use Rattle.mf_types.specs.LinkCalls.{Sent, sent_bytes}
use Rattle.outside_in_memory.specs.declared.send_log.Entry.{Entry}
use Rattle.outside_in_memory.specs.SendLog.{sends_of, total}

abbrev pub sent_by : Entry → List ℕ → Sent
sent_by e bytes = record { bytes = bytes; taken = e.taken; answers = e.answers; silences = e.silences }

pub sends_of_push : (es : List Entry) (e : Entry) (bytes sent : List ℕ) → total es ≡ length bytes → e.length ≡ length sent
    → sends_of (es ++ e ∷ []) (bytes ++ sent) ≡ sends_of es bytes ++ sent_by e sent ∷ []
sends_of_push [] e bytes sent joined is =
    let none : bytes ≡ [] = nil_from_length bytes (sym joined) in
    ap (λ (xs : List ℕ). sent_by e (take e.length (xs ++ sent)) ∷ []) none
    ∙ ap (λ (xs : List ℕ). sent_by e xs ∷ []) (take_all e.length sent (omega arith))
sends_of_push (x ∷ es) e bytes sent joined is =
    let left : length (drop x.length bytes) ≡ length bytes - x.length = length-drop x.length bytes in
    ap (λ (xs : List ℕ). sent_by x xs ∷ sends_of (es ++ e ∷ []) (drop x.length (bytes ++ sent))) (take-append-le x.length bytes sent (omega arith))
    ∙ ap (λ (xs : List ℕ). sent_by x (take x.length bytes) ∷ sends_of (es ++ e ∷ []) xs) (drop-append-le x.length bytes sent (omega arith))
    ∙ ap (λ (ss : List Sent). sent_by x (take x.length bytes) ∷ ss) (sends_of_push es e (drop x.length bytes) sent (omega arith) is)

pub total_push : (es : List Entry) (e : Entry) → total (es ++ e ∷ []) ≡ total es + e.length
total_push [] e = omega arith
total_push (x ∷ es) e = let rest = total_push es e in omega arith

-- the bytes of the sends, joined
pub sent_joined : (es : List Entry) (bytes : List ℕ) → total es ≡ length bytes → sent_bytes (sends_of es bytes) ≡ bytes
sent_joined [] bytes joined = sym (nil_from_length bytes (sym joined))
sent_joined (x ∷ es) bytes joined =
    let left : length (drop x.length bytes) ≡ length bytes - x.length = length-drop x.length bytes in
    ap (λ (xs : List ℕ). take x.length bytes ++ xs) (sent_joined es (drop x.length bytes) (omega arith)) ∙ take-append-drop x.length bytes
