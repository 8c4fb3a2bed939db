use Rattle.std.proofs.Common.{◌≡◌, ◌∙◌, false, true, sym, ap}
use Rattle.std.specs.Prelude.{slice_index}
use Rattle.image_bytes.specs.Layout.{is_range, rows_of}
use Rattle.msspot_read.proofs.BodyLaws.{no_range, asked_is}
use Rattle.msspot_read.proofs.body.body.Goals as goal

pub returns-then-not-is_range : goal.returns-then-not-is_range
returns-then-not-is_range c =
    let i = c.args.known.now in
    let r = c.args.row.now.columns in
    let bad : is_range (rows_of i 8) (slice_index r 7) (slice_index r 8) ≡ false =
    sym (c.is_range.ensures ∙ ap (λ n. is_range n (slice_index r 7) (slice_index r 8)) (c.rows-rows.ensures ∙ ap (λ j. rows_of j 8) c.parts.ensures)) ∙ c.if-not-is_range.true
    in
    no_range i r (sym c.are_locals.ensures ∙ c.if-not-are_locals.false) bad

pub returns : goal.returns
returns c =
    let i = c.args.known.now in
    let r = c.args.row.now.columns in
    let good : is_range (rows_of i 8) (slice_index r 7) (slice_index r 8) ≡ true =
    sym (c.is_range.ensures ∙ ap (λ n. is_range n (slice_index r 7) (slice_index r 8)) (c.rows-rows.ensures ∙ ap (λ j. rows_of j 8) c.parts.ensures)) ∙ c.if-not-is_range.false
    in
    c.code.ensures ∙ asked_is i r (sym c.are_locals.ensures ∙ c.if-not-are_locals.false) good
