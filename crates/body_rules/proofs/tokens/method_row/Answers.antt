use Rattle.std.proofs.Common.{◌≡◌, ◌-◌, true, false, not, [], sym, ap, ◌∙◌, arith}
use Rattle.std.specs.Prelude.{slice_index_or}
use Rattle.file_tables.specs.Metadata.{rows_of}
use Rattle.kept_rules.specs.Row.{by_method, MethodRefAt}
use Rattle.world_rows.specs.Tokens.{member_refs, is_method_ref, no_method}
use Rattle.row_rules.specs.Links.{row_at}
use Rattle.body_rules.proofs.TokenLaws.{method_is, method_own, method_reference, method_other, reference_is, reference_zero, reference_other}
use Rattle.body_rules.proofs.tokens.method_row.Goals as goal
use Rattle.body_rules.proofs.tokens.method_row.Goals.{else-at-eq-MEMBER_REF-via-then-at-eq-MEMBER_REF+then-at-gt0+else-not-is_field, else-at-eq-MEMBER_REF-via-then-at-eq-MEMBER_REF+else-at-gt0, else-at-eq-MEMBER_REF-via-else-at-eq-MEMBER_REF}

pub returns-then-at-eq-METHOD_DEF : goal.returns-then-at-eq-METHOD_DEF
returns-then-at-eq-METHOD_DEF c =
    let m = c.args.tables.now in
    let a = c.split_number-at.result.table in
    let r = c.split_number-at.result.row in
    ap row_at c.place.ensures
    ∙ ap (by_method c.args.file) (sym (method_own m a r c.if-at-eq-METHOD_DEF.true) ∙ method_is m c.args.token a r c.split_number-at.ensures.table c.split_number-at.ensures.row)

pub returns-then-not-is_field : goal.returns-then-not-is_field
returns-then-not-is_field c =
    let m = c.args.tables.now in
    let a = c.split_number-at.result.table in
    let r = c.split_number-at.result.row in
    let kind : is_method_ref m (slice_index_or (rows_of m member_refs) (r - 1) []) ≡ true = (let field : c.is_field.result ≡ false = cc c.if-not-is_field.true in ap not (sym c.is_field.ensures ∙ field)) in
    ap (MethodRefAt c.args.file) c.method_number.ensures
    ∙ ap (by_method c.args.file)
    (sym (reference_is m (is_method_ref m) (no_method m) r c.if-at-gt0.true kind)
    ∙ sym (method_reference m a r c.if-at-eq-MEMBER_REF.true)
    ∙ method_is m c.args.token a r c.split_number-at.ensures.table c.split_number-at.ensures.row)

pub returns : goal.returns
returns c =
    let m = c.args.tables.now in
    let a = c.split_number-at.result.table in
    let r = c.split_number-at.result.row in
    let is = method_is m c.args.token a r c.split_number-at.ensures.table c.split_number-at.ensures.row in
    ap row_at c.place-2.ensures
    ∙ ap (by_method c.args.file)
    (elim c.else-at-eq-MEMBER_REF.branch [
      | else-at-eq-MEMBER_REF-via-then-at-eq-MEMBER_REF+then-at-gt0+else-not-is_field w ↦
          let kind : is_method_ref m (slice_index_or (rows_of m member_refs) (r - 1) []) ≡ false = (let field : w.is_field.result ≡ true = cc w.if-not-is_field.false in ap not (sym w.is_field.ensures ∙ field)) in
          sym (reference_other m (is_method_ref m) (no_method m) r w.if-at-gt0.true kind) ∙ sym (method_reference m a r w.if-at-eq-MEMBER_REF.true) ∙ is
      | else-at-eq-MEMBER_REF-via-then-at-eq-MEMBER_REF+else-at-gt0 w ↦
          let zero : r ≡ 0 = omega (arith, w.if-at-gt0.false) in
          sym (reference_zero m (is_method_ref m) (no_method m) r zero) ∙ sym (method_reference m a r w.if-at-eq-MEMBER_REF.true) ∙ is
      | else-at-eq-MEMBER_REF-via-else-at-eq-MEMBER_REF w ↦ sym (method_other m a r c.if-at-eq-METHOD_DEF.false w.if-at-eq-MEMBER_REF.false) ∙ is
    ])
