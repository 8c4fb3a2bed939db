use Rattle.std.proofs.Common.{sym, arith, ◌∙◌}
use Rattle.cil_code.proofs.Unrolled.{some_section, section_is, clause_here, clause_later, each_inside}
use Rattle.cil_code.proofs.sections.numbered_clause.Goals as goal

pub unwrap-section-requires : goal.unwrap-section-requires
unwrap-section-requires c = rw c.leading_section.ensures.section (some_section c.sections.rest.now c.sections.left c.sections.invariant.0)

pub overflow_mul-at : goal.overflow_mul-at
overflow_mul-at c =
    let s = c.unwrap-section.result in
    let is = section_is c.sections.rest.now s (sym c.leading_section.ensures.section ∙ c.unwrap-section.ensures) in
    rw c.clause_len.ensures (omega (arith, each_inside s.form c.sections.left s.count c.if-left-section.true))

pub overflow_add-at : goal.overflow_add-at
overflow_add-at c =
    let s = c.unwrap-section.result in
    let is = section_is c.sections.rest.now s (sym c.leading_section.ensures.section ∙ c.unwrap-section.ensures) in
    rw c.clause_len.ensures (omega (arith, each_inside s.form c.sections.left s.count c.if-left-section.true))

pub clause_of-requires : goal.clause_of-requires
clause_of-requires c =
    let s = c.unwrap-section.result in
    let is = section_is c.sections.rest.now s (sym c.leading_section.ensures.section ∙ c.unwrap-section.ensures) in
    rw c.clause_len.ensures (omega (arith, each_inside s.form c.sections.left s.count c.if-left-section.true))

pub returns-then-left-section : goal.returns-then-left-section
returns-then-left-section c =
    let s = c.unwrap-section.result in
    let here = clause_here c.sections.rest.now s c.sections.left (sym c.leading_section.ensures.section ∙ c.unwrap-section.ensures) c.sections.invariant.0 c.if-left-section.true in
    rw (c.clause_of.ensures, c.clause_len.ensures) (sym c.sections.invariant.1 ∙ here)

pub sections-preserved : goal.sections-preserved
sections-preserved c =
    let s = c.unwrap-section.result in
    let later = clause_later c.sections.rest.now s c.sections.left (sym c.leading_section.ensures.section ∙ c.unwrap-section.ensures) c.sections.invariant.0 c.if-left-section.false in
    rw c.split_at.ensures.back (later.0, sym later.1 ∙ c.sections.invariant.1)
