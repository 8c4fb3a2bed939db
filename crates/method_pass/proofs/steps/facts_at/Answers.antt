use Rattle.std.proofs.Common.{List, length, sym, ap, ◌∙◌}
use Rattle.std.specs.Prelude.{nat_eq, not}
use Rattle.std.specs.List.{list_any}
use Rattle.cil_code.specs.declared.clause.Clause.{Clause}
use Rattle.code_places.proofs.WalkLaws.{start_inside}
use Rattle.method_pass.proofs.MethodLaws.{targeted_here, told_here}
use Rattle.method_pass.proofs.steps.facts_at.Goals as goal

pub is_target-requires : goal.is_target-requires
is_target-requires c = start_inside c.args.steps.now.listing.now.code c.args.at c.requires.start

pub returns : goal.returns
returns c =
    λ listed s a found.
    let t = told_here c.args.steps.now listed a c.args.at s found c.args.instr.now c.args.row c.requires.stands c.requires.row in
    record {
      next = c.behind.ensures ∙ sym t.next;
      begins = c.in_ok-begins.ensures listed s a found;
      tries = c.begins_try.ensures ∙ ap (λ (cs : List Clause). list_any (λ (k : Clause). nat_eq k.try_start c.args.at) cs) c.clauses.ensures ∙ sym t.tries;
      broken = c.in_ok-broken.ensures listed s a found;
      branches = c.target_count.ensures c.args.steps.now.listing.now.code c.args.at ∙ ap length (sym t.goes);
      falls = λ types left e. ap not c.is_unconditional_transfer.ensures ∙ sym (t.falls_on types left e);
      falls_well = c.falls_well.ensures c.requires.start a.proper ∙ sym t.falls_well;
      targeted = λ h. c.is_target.ensures ∙ (sym (targeted_here c.args.steps.now listed a c.args.at) ∙ h);
    }
