use Rattle.std.proofs.Common.{◌≡◌, ℕ, ◌∙◌, sym, ap}
use Rattle.std.specs.Prelude.{is_some}
use Rattle.image_bytes.specs.Layout.{Image}
use Rattle.image_form.specs.Form.{name_at}
use Rattle.msspot_read.specs.Held.{held_of, tables_read}
use Rattle.msspot_read.proofs.SeenLaws.{names_read, bad_name, bad_entry, tables_tell}
use Rattle.msspot_read.proofs.rows.stand.Goals as goal

pub returns-then-not-is_name : goal.returns-then-not-is_name
returns-then-not-is_name c =
    let i = c.args.parts.now in
    let name : c.is_name.result ≡ names_read i =
    c.is_name.ensures ∙ ap (λ (j : Image). is_some (name_at (held_of j) c.name.result)) c.in-Some.ensures.same ∙ ap (λ (w : ℕ). is_some (name_at (held_of i) w)) c.name.ensures
    in
    bad_name i c.in-Some.ensures.texts (sym name ∙ c.if-not-is_name.true)

pub returns-then-not-has_entry : goal.returns-then-not-has_entry
returns-then-not-has_entry c = bad_entry c.args.parts.now c.in-Some.ensures.texts (sym c.has_entry.ensures ∙ c.if-not-has_entry.true)

pub returns : goal.returns
returns c =
    let i = c.args.parts.now in
    let name : c.is_name.result ≡ names_read i =
    c.is_name.ensures ∙ ap (λ (j : Image). is_some (name_at (held_of j) c.name.result)) c.in-Some.ensures.same ∙ ap (λ (w : ℕ). is_some (name_at (held_of i) w)) c.name.ensures
    in
    c.tables_stand.ensures
    ∙ ap tables_read c.in-Some.ensures.same
    ∙ tables_tell i c.in-Some.ensures.texts (sym name ∙ c.if-not-is_name.false) (sym c.has_entry.ensures ∙ c.if-not-has_entry.false)
