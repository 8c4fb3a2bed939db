use Rattle.std.proofs.Common.{◌∙◌, sym}
use Rattle.clause_regions.specs.Lying.{code_clause}
use Rattle.clause_regions.proofs.LieLaws.{not_nested, not_kept, outer_first, apart}
use Rattle.clause_regions.proofs.lies_well.Goals as goal

pub returns-then-not-nested : goal.returns-then-not-nested
returns-then-not-nested c = not_nested (code_clause c.args.b) (code_clause c.args.c) (sym c.all_nest-nested.ensures ∙ c.if-not-nested.true)

pub returns-then-not-kept : goal.returns-then-not-kept
returns-then-not-kept c =
    not_kept (code_clause c.args.b) (code_clause c.args.c) (sym c.all_nest-nested.ensures ∙ c.if-not-nested.false) (sym c.all_keep-kept.ensures ∙ c.if-not-kept.true)

pub returns-then-inside : goal.returns-then-inside
returns-then-inside c =
    outer_first (code_clause c.args.b) (code_clause c.args.c) (sym c.all_nest-nested.ensures ∙ c.if-not-nested.false) (sym c.all_keep-kept.ensures ∙ c.if-not-kept.false) (sym c.is_inside-inside.ensures ∙ c.if-inside.true)

pub returns : goal.returns
returns c =
    apart (code_clause c.args.b) (code_clause c.args.c) (sym c.all_nest-nested.ensures ∙ c.if-not-nested.false) (sym c.all_keep-kept.ensures ∙ c.if-not-kept.false) (sym c.is_inside-inside.ensures ∙ c.if-inside.false)
