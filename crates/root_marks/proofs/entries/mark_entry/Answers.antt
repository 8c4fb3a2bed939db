use Rattle.std.proofs.Common.{[], ◌∷◌, sym, ap, ◌∙◌}
use Rattle.kept_rules.specs.Row.{MethodAt, in_option}
use Rattle.root_marks.specs.Roots.{marked}
use Rattle.root_marks.proofs.entries.mark_entry.Goals as goal

pub returns-in-Some : goal.returns-in-Some
returns-in-Some c =
    λ ps are.
    c.mark.ensures ps are ∙ ap (λ o. marked ps (in_option (λ n. MethodAt c.args.file n ∷ []) o) c.args.marks.now) (sym c.in-Some.is ∙ c.entry_row.ensures)

pub returns-in-None : goal.returns-in-None
returns-in-None c =
    λ ps are.
    ap (λ o. marked ps (in_option (λ n. MethodAt c.args.file n ∷ []) o) c.args.marks.now) (sym c.in-None.is ∙ c.entry_row.ensures)
