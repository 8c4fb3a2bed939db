-- What an entry kept gives the content before its operation back.
use Rattle.std.proofs.Common.{◌≡◌, ℕ, ◌+◌, ◌-◌, ◌<◌, Bool, true, false, List, [], ◌∷◌, ◌++◌, length, take, drop, refl, sym, ap, ◌∙◌, arith}
use Rattle.std.specs.Prelude.{reverse, ◌==◌, slice_index, if◌then◌else◌}
use Rattle.std.proofs.lemmas.List.{ext_get_or, get_or-take, get_or-drop, reverse-append}
use Rattle.std.proofs.lemmas.Bool.{eqb-true}
use Rattle.flash_trait.specs.Flash.{Operation, start, span, covers, may_stand, IsStopped}
use Rattle.flash_trait.proofs.FlashContents.{length-by_place, get-by_place, covers-true}
use Rattle.block_flash.specs.declared.change.Entry.{Entry}
use Rattle.block_flash.specs.Change.{logged_of}
use Rattle.block_flash.specs.History.{put_back, undone, history_back, history, Keeps}

abbrev back_byte : Operation → List ℕ → ℕ → ℕ → ℕ
back_byte op before place now = if covers op place then slice_index before (place - start op) else now

back_at : (op : Operation) (old new : List ℕ) → IsStopped op old new → (place : ℕ) → place < length old → (b : Bool) → covers op place ≡ b
    → (if b then slice_index (take (span op) (drop (start op) old)) (place - start op) else slice_index new place) ≡ slice_index old place
back_at op old new stopped place below true covered =
    let range = covers-true op place covered in
    let at : start op + (place - start op) ≡ place = omega arith in
    get_or-take (span op) (drop (start op) old) (place - start op) 0 (omega arith)
    ∙ get_or-drop (start op) old (place - start op) 0
    ∙ ap (slice_index old) at
back_at op old new stopped place below false uncovered =
    eqb-true (slice_index new place) (slice_index old place)
    (sym (ap (λ (b : Bool). if b then may_stand op (place - start op) (slice_index old place) (slice_index new place) else (slice_index new place == slice_index old place)) uncovered) ∙ stopped.bytes place below)

pub put_back-is : (op : Operation) (old new : List ℕ) → IsStopped op old new → put_back op (take (span op) (drop (start op) old)) new ≡ old
put_back-is op old new stopped =
    let before = take (span op) (drop (start op) old) in
    ext_get_or 0 (put_back op before new) old (length-by_place (back_byte op before) new ∙ stopped.size)
    (λ i below.
    let within : i < length new = omega (arith, length-by_place (back_byte op before) new) in
    get-by_place (back_byte op before) new i within ∙ back_at op old new stopped i (omega (arith, stopped.size)) (covers op i) refl)

-- one entry more is one operation more
pub history-push : (entries : List Entry) (entry : Entry) (op : Operation) (old new : List ℕ) → logged_of entry.operation ≡ op
    → entry.before.items ≡ take (span op) (drop (start op) old) → IsStopped op old new
    → history (entries ++ entry ∷ []) new ≡ history entries old ++ (record { operation = op; before = old }) ∷ []
unfolding undone
history-push entries entry op old new op-is before-is stopped =
    let back : undone entry new ≡ old =
    ap (λ (o : Operation). put_back o entry.before.items new) op-is
    ∙ ap (λ (xs : List ℕ). put_back op xs new) before-is
    ∙ put_back-is op old new stopped in
    ap (λ (es : List Entry). reverse (history_back es new)) (reverse-append entries (entry ∷ []))
    ∙ ap (λ (o : Operation). reverse ((record { operation = o; before = undone entry new }) ∷ history_back (reverse entries) (undone entry new))) op-is
    ∙ ap (λ (xs : List ℕ). reverse ((record { operation = op; before = xs }) ∷ history_back (reverse entries) xs)) back
    ∙ reverse-append ((record { operation = op; before = old }) ∷ []) (history_back (reverse entries) old)

pub history-keeps : (op : Operation) (entries entries' : List Entry) (old new : List ℕ) → Keeps op old entries entries' → IsStopped op old new
    → history entries' new ≡ history entries old ++ (record { operation = op; before = old }) ∷ []
history-keeps op entries entries' old new keeps stopped =
    ap (λ (es : List Entry). history es new) keeps.log ∙ history-push entries keeps.entry op old new keeps.operation keeps.before stopped
