use Rattle.std.proofs.Common.{◌≡◌, ◌⊎◌, inl, inr, ◌∙◌, ◌<◌, ◌≤◌, sym, subst, arith, Bool}
use Rattle.std.specs.Prelude.{IfOk}
use Rattle.std.proofs.lemmas.Bool.{cases_lt}
use Rattle.classes.specs.Queries.{fits}
use Rattle.class_table.specs.Seen.{classes_seen}
use Rattle.cil_types.specs.Rows.{type_in}
use Rattle.cil_types.proofs.FitLaws.{fewer_brackets, more_brackets, no_brackets, one_wanted, same_brackets}
use Rattle.cil_types.proofs.fits.references_fit.Goals as goal

pub returns-then-from-to : goal.returns-then-from-to
returns-then-from-to c =
    sym (fewer_brackets (classes_seen c.args.order.now.table.now) c.args.from.now c.args.to.now c.base_of-from_base.result c.base_of-to_base.result c.base_of-from_base.ensures c.base_of-to_base.ensures c.if-from-to.true)

pub returns-then-to-from : goal.returns-then-to-from
returns-then-to-from c = go (cases_lt 0 c.args.to.now.ranks)
  where
    go : (0 < c.args.to.now.ranks) ⊎ (c.args.to.now.ranks ≤ 0) → c.takes_arrays.result ≡ fits (classes_seen c.args.order.now.table.now) (type_in c.args.from.now) (type_in c.args.to.now)
    go (inl some) =
        c.takes_arrays.ensures.arrays some
        ∙ sym (more_brackets (classes_seen c.args.order.now.table.now) c.args.from.now c.args.to.now c.base_of-from_base.result c.base_of-to_base.result c.base_of-from_base.ensures c.base_of-to_base.ensures c.if-to-from.true some)
    go (inr few) =
        let none : c.args.to.now.ranks ≡ 0 = omega (arith, few) in
        c.takes_arrays.ensures.one none
        ∙ sym (one_wanted (classes_seen c.args.order.now.table.now) c.args.from.now c.args.to.now c.base_of-from_base.result c.base_of-to_base.result c.base_of-from_base.ensures c.base_of-to_base.ensures c.if-to-from.true none)

pub returns-then-to-gt0 : goal.returns-then-to-gt0
returns-then-to-gt0 c =
    let same : c.args.from.now.ranks ≡ c.args.to.now.ranks = omega arith in
    let told = same_brackets (classes_seen c.args.order.now.table.now) c.args.from.now c.args.to.now c.base_of-from_base.result c.base_of-to_base.result c.base_of-from_base.ensures c.base_of-to_base.ensures same c.if-to-gt0.true in
    let P : Bool → Type 0 = λ x. IfOk c.elements_fit.result (λ answer. answer ≡ x) in
    subst P (sym told) c.elements_fit.ensures

pub returns-else-to-gt0 : goal.returns-else-to-gt0
returns-else-to-gt0 c =
    let none : c.args.to.now.ranks ≡ 0 = omega arith in
    let first : c.args.from.now.ranks ≡ 0 = omega arith in
    let told = no_brackets (classes_seen c.args.order.now.table.now) c.args.from.now c.args.to.now c.base_of-from_base.result c.base_of-to_base.result c.base_of-from_base.ensures c.base_of-to_base.ensures first none in
    let P : Bool → Type 0 = λ x. IfOk c.fits.result (λ answer. answer ≡ x) in
    subst P (sym told) c.fits.ensures
