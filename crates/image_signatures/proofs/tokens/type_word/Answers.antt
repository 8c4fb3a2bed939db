use Rattle.std.proofs.Common.{◌+◌, ap, ◌∙◌}
use Rattle.kept_rows.specs.Select.{below}
use Rattle.world_rows.specs.Tokens.{from_zero}
use Rattle.row_numbers.specs.declared.table.Table.TheVariants as table
use Rattle.kept_marks.specs.Masks.{masks_of}
use Rattle.image_signatures.proofs.TokenLaws.{of_type, of_reference, of_specification, of_none}
use Rattle.image_signatures.proofs.tokens.type_word.Goals as goal

pub returns-then-token-eq-TYPE_DEF : goal.returns-then-token-eq-TYPE_DEF
returns-then-token-eq-TYPE_DEF c =
    c.from-then-token-eq-TYPE_DEF.ensures
    ∙ c.below.ensures
    ∙ ap (below (masks_of c.args.choice.now table.TypeDef)) (c.from.ensures ∙ c.from_zero-row.ensures ∙ ap (λ n. from_zero n c.args.token.row) c.rows.ensures)
    ∙ of_type (masks_of c.args.choice.now) c.args.tables.now c.args.token.table c.args.token.row c.if-token-eq-TYPE_DEF.true

pub returns-then-token-eq-TYPE_REF : goal.returns-then-token-eq-TYPE_REF
returns-then-token-eq-TYPE_REF c =
    ap (λ n. 16384 + n)
    (c.from-then-token-eq-TYPE_REF-2.ensures
    ∙ c.below-then-token-eq-TYPE_REF.ensures
    ∙ ap (below (masks_of c.args.choice.now table.TypeRef)) (c.from-then-token-eq-TYPE_REF.ensures ∙ c.from_zero-row-then-token-eq-TYPE_REF.ensures ∙ ap (λ n. from_zero n c.args.token.row) c.rows-then-token-eq-TYPE_REF.ensures))
    ∙ of_reference (masks_of c.args.choice.now) c.args.tables.now c.args.token.table c.args.token.row c.if-token-eq-TYPE_REF.true

pub returns-then-token-eq-TYPE_SPEC : goal.returns-then-token-eq-TYPE_SPEC
returns-then-token-eq-TYPE_SPEC c =
    ap (λ n. 32768 + n)
    (c.from-then-token-eq-TYPE_SPEC-2.ensures
    ∙ c.below-then-token-eq-TYPE_SPEC.ensures
    ∙ ap (below (masks_of c.args.choice.now table.TypeSpec)) (c.from-then-token-eq-TYPE_SPEC.ensures ∙ c.from_zero-row-then-token-eq-TYPE_SPEC.ensures ∙ ap (λ n. from_zero n c.args.token.row) c.rows-then-token-eq-TYPE_SPEC.ensures))
    ∙ of_specification (masks_of c.args.choice.now) c.args.tables.now c.args.token.table c.args.token.row c.if-token-eq-TYPE_SPEC.true

pub returns-else-token-eq-TYPE_SPEC : goal.returns-else-token-eq-TYPE_SPEC
returns-else-token-eq-TYPE_SPEC c =
    c.from-else-token-eq-TYPE_SPEC-2.ensures
    ∙ c.below-else-token-eq-TYPE_SPEC.ensures
    ∙ ap (below (masks_of c.args.choice.now table.TypeDef)) (c.from-else-token-eq-TYPE_SPEC.ensures ∙ c.rows-row.ensures)
    ∙ of_none (masks_of c.args.choice.now) c.args.tables.now c.args.token.table c.args.token.row c.if-token-eq-TYPE_DEF.false c.if-token-eq-TYPE_REF.false c.if-token-eq-TYPE_SPEC.false
