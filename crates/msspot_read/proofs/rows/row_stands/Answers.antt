use Rattle.std.proofs.Common.{◌≡◌, ℕ, ◌∙◌, sym, ap, length}
use Rattle.std.specs.Prelude.{slice_index}
use Rattle.image_bytes.specs.Layout.{widths}
use Rattle.msspot_read.specs.Rows.{row_of}
use Rattle.msspot_read.specs.Columns.{columns_of}
use Rattle.msspot_read.specs.Held.{all_stand}
use Rattle.msspot_read.proofs.ReadLaws.{same_stand, row_fails, method_row, other_row}
use Rattle.msspot_read.proofs.BodyLaws.{body_same}
use Rattle.msspot_read.proofs.rows.row_stands.Goals as goal

pub returns-then-not-columns_stand : goal.returns-then-not-columns_stand
returns-then-not-columns_stand c =
    let i = c.args.known.now in
    let t = c.args.table in
    let r = row_of i t c.args.n in
    let columns = c.row-row.result.columns in
    let same : (k : ℕ) → slice_index columns k ≡ slice_index r k = λ k. c.row-row.ensures.columns k ∙ ap (λ j. slice_index (row_of j t c.args.n) k) c.parts.ensures in
    let width : length r ≡ slice_index widths t = ap (λ j. length (row_of j t c.args.n)) (sym c.parts.ensures) ∙ c.row-row.ensures.width in
    let stood : c.columns_stand.result ≡ all_stand i (columns_of t) r = c.columns_stand.ensures ∙ ap (λ cs. all_stand i cs columns) c.columns.ensures ∙ same_stand i (columns_of t) columns r same in
    row_fails i t r c.requires.table width (sym stood ∙ c.if-not-columns_stand.true)

pub returns-then-table-eq-METHOD : goal.returns-then-table-eq-METHOD
returns-then-table-eq-METHOD c =
    let i = c.args.known.now in
    let t = c.args.table in
    let r = row_of i t c.args.n in
    let columns = c.row-row.result.columns in
    let same : (k : ℕ) → slice_index columns k ≡ slice_index r k = λ k. c.row-row.ensures.columns k ∙ ap (λ j. slice_index (row_of j t c.args.n) k) c.parts.ensures in
    let width : length r ≡ slice_index widths t = ap (λ j. length (row_of j t c.args.n)) (sym c.parts.ensures) ∙ c.row-row.ensures.width in
    let stood : c.columns_stand.result ≡ all_stand i (columns_of t) r = c.columns_stand.ensures ∙ ap (λ cs. all_stand i cs columns) c.columns.ensures ∙ same_stand i (columns_of t) columns r same in
    c.body.ensures ∙ body_same i columns r same ∙ method_row i t r c.requires.table width (sym stood ∙ c.if-not-columns_stand.false) c.if-table-eq-METHOD.true

pub returns : goal.returns
returns c =
    let i = c.args.known.now in
    let t = c.args.table in
    let r = row_of i t c.args.n in
    let columns = c.row-row.result.columns in
    let same : (k : ℕ) → slice_index columns k ≡ slice_index r k = λ k. c.row-row.ensures.columns k ∙ ap (λ j. slice_index (row_of j t c.args.n) k) c.parts.ensures in
    let width : length r ≡ slice_index widths t = ap (λ j. length (row_of j t c.args.n)) (sym c.parts.ensures) ∙ c.row-row.ensures.width in
    let stood : c.columns_stand.result ≡ all_stand i (columns_of t) r = c.columns_stand.ensures ∙ ap (λ cs. all_stand i cs columns) c.columns.ensures ∙ same_stand i (columns_of t) columns r same in
    other_row i t r c.requires.table width (sym stood ∙ c.if-not-columns_stand.false) c.if-table-eq-METHOD.false
