use Rattle.std.proofs.Common.{◌≡◌, ◌≤◌, ◌&&◌, true, false, List, drop, length, take, Some, None, sym, ap, ◌∙◌, arith, add-one}
use Rattle.std.specs.Prelude.{slice_get}
use Rattle.board_types.specs.declared.board.ClauseAt.{ClauseAt}
use Rattle.memory_states.specs.Told.{Told, told}
use Rattle.tiny_except.specs.Clauses.{meets, is_sought, first_sought}
use Rattle.tiny_except.proofs.Firsts.{passed, here, none, ends, take_here, take_most}
use Rattle.tiny_except.proofs.clauses.first.Goals as goal
use Rattle.tiny_except.proofs.clauses.first.Goals.{else-count-via-then-count+else-is_met, else-count-via-else-count}

pub returns-in_err-clause : goal.returns-in_err-clause
returns-in_err-clause g c =
    let t : Told = told (g.S.Subclass.sub c.args.types.now) (g.S.Subclass.clauses c.args.types.now) in
    let cs : List ClauseAt = take 65536 (g.S.Subclass.clauses c.args.types.now c.args.method) in
    let past : slice_get cs c.loop-number.number ≡ None =
    take_here 65536 (g.S.Subclass.clauses c.args.types.now c.args.method) c.loop-number.number c.loop-number-test.true ∙ sym c.clause.ensures ∙ c.in_err-clause.was in
    c.from_residual.ensures ∙ sym (none t c.args.sought cs c.loop-number.number past) ∙ c.loop-number.invariant

pub returns-then-is_met : goal.returns-then-is_met
returns-then-is_met g c =
    let t : Told = told (g.S.Subclass.sub c.args.types.now) (g.S.Subclass.clauses c.args.types.now) in
    let cs : List ClauseAt = take 65536 (g.S.Subclass.clauses c.args.types.now c.args.method) in
    let there : slice_get cs c.loop-number.number ≡ Some c.in_ok-clause.clause =
    take_here 65536 (g.S.Subclass.clauses c.args.types.now c.args.method) c.loop-number.number c.loop-number-test.true ∙ sym c.clause.ensures ∙ c.in_ok-clause.was in
    let sought : is_sought t c.args.sought c.in_ok-clause.clause ≡ true =
    ap (λ b. b && meets t c.args.sought.goal c.in_ok-clause.clause) (sym c.count.ensures ∙ c.if-count.true) ∙ sym c.is_met.ensures ∙ c.if-is_met.true in
    sym (here t c.args.sought cs c.loop-number.number c.in_ok-clause.clause there sought) ∙ c.loop-number.invariant

pub loop-number-preserved : goal.loop-number-preserved
loop-number-preserved g c =
    let t : Told = told (g.S.Subclass.sub c.args.types.now) (g.S.Subclass.clauses c.args.types.now) in
    let cs : List ClauseAt = take 65536 (g.S.Subclass.clauses c.args.types.now c.args.method) in
    let there : slice_get cs c.loop-number.number ≡ Some c.in_ok-clause.clause =
    take_here 65536 (g.S.Subclass.clauses c.args.types.now c.args.method) c.loop-number.number c.loop-number-test.true ∙ sym c.clause.ensures ∙ c.in_ok-clause.was in
    let other : is_sought t c.args.sought c.in_ok-clause.clause ≡ false =
    elim c.else-count.branch [
      | else-count-via-then-count+else-is_met w ↦
          ap (λ b. b && meets t c.args.sought.goal c.in_ok-clause.clause) (sym c.count.ensures ∙ w.if-count.true) ∙ sym w.is_met.ensures ∙ w.if-is_met.false
      | else-count-via-else-count w ↦ ap (λ b. b && meets t c.args.sought.goal c.in_ok-clause.clause) (sym c.count.ensures ∙ w.if-count.false)
    ] in
    ap (λ k. first_sought t c.args.sought k (drop k cs)) (add-one c.loop-number.number) ∙ passed t c.args.sought cs c.loop-number.number c.in_ok-clause.clause there other ∙ c.loop-number.invariant

pub returns : goal.returns
returns g c =
    let t : Told = told (g.S.Subclass.sub c.args.types.now) (g.S.Subclass.clauses c.args.types.now) in
    let cs : List ClauseAt = take 65536 (g.S.Subclass.clauses c.args.types.now c.args.method) in
    let most : length cs ≤ 65536 = take_most 65536 (g.S.Subclass.clauses c.args.types.now c.args.method) in
    let past : length cs ≤ c.loop-number.number = omega (arith, most, c.loop-number-test.false) in
    sym (ends t c.args.sought cs c.loop-number.number past) ∙ c.loop-number.invariant
