use Rattle.std.proofs.Common.{◌+◌, ap, ◌∙◌}
use Rattle.kept_rows.specs.Select.{below}
use Rattle.world_rows.specs.Tokens.{from_zero}
use Rattle.row_numbers.specs.declared.table.Table.TheVariants as table
use Rattle.kept_marks.specs.Masks.{masks_of}
use Rattle.image_rows.proofs.ScopeLaws.{assembly_scope, inner_scope, no_scope}
use Rattle.image_rows.proofs.columns.scope_word.Goals as goal

pub returns-then-token-eq-ASSEMBLY_REF : goal.returns-then-token-eq-ASSEMBLY_REF
returns-then-token-eq-ASSEMBLY_REF c =
    c.from-then-token-eq-ASSEMBLY_REF.ensures
    ∙ c.below.ensures
    ∙ ap (below (masks_of c.args.choice.now table.AssemblyRef)) (c.from.ensures ∙ c.from_zero-row.ensures ∙ ap (λ n. from_zero n c.split-token.result.row) c.rows.ensures)
    ∙ assembly_scope (masks_of c.args.choice.now) c.args.tables.now c.args.scope c.split-token.result.table c.split-token.result.row c.split-token.ensures.table c.split-token.ensures.row c.if-token-eq-ASSEMBLY_REF.true

pub returns-then-token-eq-TYPE_REF : goal.returns-then-token-eq-TYPE_REF
returns-then-token-eq-TYPE_REF c =
    ap (λ n. 16384 + n)
    (c.from-then-token-eq-TYPE_REF-2.ensures
    ∙ c.below-then-token-eq-TYPE_REF.ensures
    ∙ ap (below (masks_of c.args.choice.now table.TypeRef)) (c.from-then-token-eq-TYPE_REF.ensures ∙ c.from_zero-row-then-token-eq-TYPE_REF.ensures ∙ ap (λ n. from_zero n c.split-token.result.row) c.rows-then-token-eq-TYPE_REF.ensures))
    ∙ inner_scope (masks_of c.args.choice.now) c.args.tables.now c.args.scope c.split-token.result.table c.split-token.result.row c.split-token.ensures.table c.split-token.ensures.row c.if-token-eq-ASSEMBLY_REF.false c.if-token-eq-TYPE_REF.true

pub returns-else-token-eq-TYPE_REF : goal.returns-else-token-eq-TYPE_REF
returns-else-token-eq-TYPE_REF c =
    no_scope (masks_of c.args.choice.now) c.args.tables.now c.args.scope c.split-token.result.table c.split-token.result.row c.split-token.ensures.table c.split-token.ensures.row c.if-token-eq-ASSEMBLY_REF.false c.if-token-eq-TYPE_REF.false
