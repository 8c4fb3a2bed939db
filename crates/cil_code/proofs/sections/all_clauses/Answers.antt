use Rattle.std.proofs.Common.{◌++◌, List, ap, sym, ◌∙◌, drop, arith}
use Rattle.cil_code.specs.declared.clause.Clause.{Clause}
use Rattle.cil_code.specs.Sections.{clauses_in, clauses_of}
use Rattle.cil_code.proofs.Unrolled.{some_section, last_clauses, more_clauses, count_left, regrouped, not_true, not_false}
use Rattle.cil_code.proofs.sections.all_clauses.Goals as goal

pub unwrap-section-requires : goal.unwrap-section-requires
unwrap-section-requires c = rw c.leading_section.ensures.section (some_section c.sections.rest.now 0 (omega (arith, c.sections.invariant.0)))

pub returns-then-not-section : goal.returns-then-not-section
returns-then-not-section c =
    let s = c.unwrap-section.result in
    let last = last_clauses c.sections.rest.now s (sym c.leading_section.ensures.section ∙ c.unwrap-section.ensures) (not_true s.goes_on c.if-not-section.true) in
    c.in_ok-push_clauses.ensures ∙ ap (λ (l : List Clause). c.sections.all.items ++ l) (sym last) ∙ c.sections.invariant.1

pub overflow_sub-left : goal.overflow_sub-left
overflow_sub-left c =
    let s = c.unwrap-section.result in
    let more = more_clauses c.sections.rest.now s (sym c.leading_section.ensures.section ∙ c.unwrap-section.ensures) (not_false s.goes_on c.if-not-section.false) (omega (arith, c.sections.invariant.0)) in
    (count_left c.sections.rest.now s c.sections.left more c.sections.invariant.0).0

pub sections-preserved : goal.sections-preserved
sections-preserved c =
    let s = c.unwrap-section.result in
    let more = more_clauses c.sections.rest.now s (sym c.leading_section.ensures.section ∙ c.unwrap-section.ensures) (not_false s.goes_on c.if-not-section.false) (omega (arith, c.sections.invariant.0)) in
    let count = (count_left c.sections.rest.now s c.sections.left more c.sections.invariant.0).1 in
    rw (c.split_at.ensures.back, c.in_ok-push_clauses.ensures) (count, regrouped c.sections.all.items (clauses_of s c.sections.rest.now) (clauses_in (drop s.size c.sections.rest.now)) (clauses_in c.sections.rest.now) (sym more) ∙ c.sections.invariant.1)
