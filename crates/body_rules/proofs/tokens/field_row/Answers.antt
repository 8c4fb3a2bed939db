use Rattle.std.proofs.Common.{◌≡◌, ◌-◌, true, false, [], sym, ap, ◌∙◌, arith}
use Rattle.std.specs.Prelude.{slice_index_or}
use Rattle.file_tables.specs.Metadata.{rows_of}
use Rattle.kept_rules.specs.Row.{by_field, FieldRefAt}
use Rattle.world_rows.specs.Tokens.{member_refs, is_field_ref, no_field}
use Rattle.row_rules.specs.Links.{row_at}
use Rattle.body_rules.proofs.TokenLaws.{field_is, field_own, field_reference, field_other, reference_is, reference_zero, reference_other}
use Rattle.body_rules.proofs.tokens.field_row.Goals as goal
use Rattle.body_rules.proofs.tokens.field_row.Goals.{else-at-eq-MEMBER_REF-via-then-at-eq-MEMBER_REF+then-at-gt0+else-is_field, else-at-eq-MEMBER_REF-via-then-at-eq-MEMBER_REF+else-at-gt0, else-at-eq-MEMBER_REF-via-else-at-eq-MEMBER_REF}

pub returns-then-at-eq-FIELD : goal.returns-then-at-eq-FIELD
returns-then-at-eq-FIELD c =
    let m = c.args.tables.now in
    let a = c.split_number-at.result.table in
    let r = c.split_number-at.result.row in
    ap row_at c.place.ensures
    ∙ ap (by_field c.args.file) (sym (field_own m a r c.if-at-eq-FIELD.true) ∙ field_is m c.args.token a r c.split_number-at.ensures.table c.split_number-at.ensures.row)

pub returns-then-is_field : goal.returns-then-is_field
returns-then-is_field c =
    let m = c.args.tables.now in
    let a = c.split_number-at.result.table in
    let r = c.split_number-at.result.row in
    let kind : is_field_ref m (slice_index_or (rows_of m member_refs) (r - 1) []) ≡ true = sym c.is_field.ensures ∙ c.if-is_field.true in
    ap (FieldRefAt c.args.file) c.field_number.ensures.exact
    ∙ ap (by_field c.args.file)
    (sym (reference_is m (is_field_ref m) (no_field m) r c.if-at-gt0.true kind)
    ∙ sym (field_reference m a r c.if-at-eq-MEMBER_REF.true)
    ∙ field_is m c.args.token a r c.split_number-at.ensures.table c.split_number-at.ensures.row)

pub returns : goal.returns
returns c =
    let m = c.args.tables.now in
    let a = c.split_number-at.result.table in
    let r = c.split_number-at.result.row in
    let is = field_is m c.args.token a r c.split_number-at.ensures.table c.split_number-at.ensures.row in
    ap row_at c.place-2.ensures
    ∙ ap (by_field c.args.file)
    (elim c.else-at-eq-MEMBER_REF.branch [
      | else-at-eq-MEMBER_REF-via-then-at-eq-MEMBER_REF+then-at-gt0+else-is_field w ↦
          let kind : is_field_ref m (slice_index_or (rows_of m member_refs) (r - 1) []) ≡ false = sym w.is_field.ensures ∙ w.if-is_field.false in
          sym (reference_other m (is_field_ref m) (no_field m) r w.if-at-gt0.true kind) ∙ sym (field_reference m a r w.if-at-eq-MEMBER_REF.true) ∙ is
      | else-at-eq-MEMBER_REF-via-then-at-eq-MEMBER_REF+else-at-gt0 w ↦
          let zero : r ≡ 0 = omega (arith, w.if-at-gt0.false) in
          sym (reference_zero m (is_field_ref m) (no_field m) r zero) ∙ sym (field_reference m a r w.if-at-eq-MEMBER_REF.true) ∙ is
      | else-at-eq-MEMBER_REF-via-else-at-eq-MEMBER_REF w ↦ sym (field_other m a r c.if-at-eq-FIELD.false w.if-at-eq-MEMBER_REF.false) ∙ is
    ])
