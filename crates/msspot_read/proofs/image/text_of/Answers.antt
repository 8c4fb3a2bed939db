use Rattle.std.proofs.Common.{◌≡◌, ℕ, List, length, min, drop, ◌∙◌, sym, ap}
use Rattle.image_form.specs.Whole.{bytes_at}
use Rattle.msspot_read.specs.Entry.{first_text}
use Rattle.msspot_read.proofs.ImageLaws.{text_is, text_missing}
use Rattle.msspot_read.proofs.image.text_of.Goals as goal

pub unreachable-requires : goal.unreachable-requires
unreachable-requires c =
    let i = c.args.parts.now in
    let pool = bytes_at i c.args.pool in
    let start = c.min-start.result in
    let place : start ≡ min (length pool) c.args.at = c.min-start.ensures ∙ ap (λ (p : List ℕ). min (length p) c.from.result) c.pool-bytes.ensures.pool ∙ ap (min (length pool)) c.from.ensures in
    text_missing i c.args.pool c.args.at start c.requires.there place (c.in-None.ensures ∙ ap (λ (p : List ℕ). first_text (drop start p)) c.pool-bytes.ensures.pool)

pub returns : goal.returns
returns c =
    let i = c.args.parts.now in
    let pool = bytes_at i c.args.pool in
    let start = c.min-start.result in
    let place : start ≡ min (length pool) c.args.at = c.min-start.ensures ∙ ap (λ (p : List ℕ). min (length p) c.from.result) c.pool-bytes.ensures.pool ∙ ap (min (length pool)) c.from.ensures in
    c.in-Some.ensures ∙ ap (λ (p : List ℕ). first_text (drop start p)) c.pool-bytes.ensures.pool ∙ sym (text_is i c.args.pool c.args.at start c.requires.there place)
