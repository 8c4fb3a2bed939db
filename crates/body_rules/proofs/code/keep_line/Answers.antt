use Rattle.std.proofs.Common.{◌≡◌, ℕ, List, OnOk, subst, rules, arith, w64, to_z, of_z, SFits}
use Rattle.std.specs.Prelude.{ℤ}
use Rattle.std.proofs.lemmas.Int.{ints}
use Rattle.std.proofs.lemmas.Result.{on_ok_weaker}
use Rattle.kept_rules.specs.Row.{in_operand}
use Rattle.world_rows.specs.Lines.{raw_operand}
use Rattle.row_rules.specs.Links.{row_at, keeps_each, Adds}
use Rattle.body_rules.proofs.CodeLaws.{line_operand}
use Rattle.body_rules.proofs.code.keep_line.Goals as goal

pub returns-in-Some : goal.returns-in-Some
returns-in-Some c =
    let m = c.args.tables.now in
    let f = c.args.place.file in
    let r = row_at c.args.place in
    let fits : SFits w64 c.args.instr.now.operand = search rules in
    let same : to_z w64 (of_z w64 c.args.instr.now.operand) ≡ c.args.instr.now.operand = omega (arith, ints) in
    on_ok_weaker c.keep_operand.result (line_operand f m r c.args.rules.now c.keep_operand.new.rules c.args.instr.now c.in-Some.row c.in-Some.ensures)
    (subst (λ (n : ℤ). OnOk c.keep_operand.result ((code : List ℕ) (at next : ℕ) → Adds (keeps_each r (in_operand f (raw_operand m code at next c.in-Some.row.operand n))) c.args.rules.now c.keep_operand.new.rules)) same c.keep_operand.ensures)
