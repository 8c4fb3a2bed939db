use Rattle.std.proofs.Common.{ℕ, ◌+◌, List, [], map, drop, get_or, Some, sym, ap, ◌∙◌, Bor}
use Rattle.std.proofs.lemmas.List.{drop_all, append-nil}
use Rattle.wire_script.specs.declared.net.Item.{Item}
use Rattle.wire_script.specs.Net.{each, item}
use Rattle.wire_script.proofs.Each.{with_front, words_more, each_more}
use Rattle.wire_script.proofs.net.items_of.Goals as goal

abbrev now : Bor (List ℕ) → List ℕ
now w = w.now

abbrev blank : Bor (List ℕ)
blank = record { ref_ptr = (0, 0); now = [] }

pub loop-word-preserved : goal.loop-word-preserved
loop-word-preserved c =
    let front = c.loop-word.found.items in
    let refs = c.args.words.now in
    let i = c.loop-word.word-index in
    ap (λ (ys : List Item). with_front ys (each item (map now (drop (i + 1) refs)))) c.in_ok-push_back.ensures.items
    ∙ sym (each_more item front (get_or refs i blank).now (map now (drop (i + 1) refs)) c.in_ok-item_of.field-0 c.in_ok-item_of.ensures)
    ∙ ap (λ (ws : List (List ℕ)). with_front front (each item ws)) (sym (words_more now refs i blank c.loop-word-test.true))
    ∙ c.loop-word.invariant

pub returns : goal.returns
returns c =
    let front = c.loop-word.found.items in
    sym c.loop-word.invariant
    ∙ ap (λ (rs : List (Bor (List ℕ))). with_front front (each item (map now rs))) (drop_all c.loop-word.word-index c.args.words.now c.loop-word-test.false)
    ∙ ap Some (append-nil front)
