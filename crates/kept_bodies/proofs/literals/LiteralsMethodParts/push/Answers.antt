use Rattle.std.proofs.Common.{◌≡◌, ◌++◌, ℕ, Option, Some, sym, ap, subst, ◌∙◌}
use Rattle.std.specs.Prelude.{OnOk}
use Rattle.cil_code.specs.Bodies.{BodyPart}
use Rattle.kept_rows.specs.Select.{below}
use Rattle.row_numbers.specs.declared.table.Table.TheVariants as table
use Rattle.kept_marks.specs.Masks.{masks_of}
use Rattle.kept_bodies.specs.Literals.{literals_made}
use Rattle.kept_bodies.proofs.literals.LiteralsMethodParts.push.Goals as goal

pub returns-in-Some : goal.returns-in-Some
returns-in-Some c =
    let kept = masks_of c.args.self.now.choice.now in
    let Numbered : ℕ → Type 0 = λ k. OnOk c.push_of_body.result (c.push_of_body.new.out.items ≡ c.args.out.now.items ++ literals_made kept c.args.self.now.tables.now k (Some c.in-Some.body)) in
    let Pushed : Option BodyPart → Type 0 = λ b. OnOk c.push_of_body.result (c.push_of_body.new.out.items ≡ c.args.out.now.items ++ literals_made kept c.args.self.now.tables.now (below (kept table.MethodDef) c.args.n) b) in
    subst Pushed (sym c.in-Some.is) (subst Numbered (c.below-method.ensures ∙ ap (below (kept table.MethodDef)) c.from.ensures) (c.push_of_body.ensures kept))
