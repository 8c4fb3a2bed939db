use Rattle.std.proofs.Common.{◌≡◌, ◌+◌, ◌-◌, ◌∷◌, ℕ, List, length, Option, Some, sym, ap, ◌∙◌, arith, subst}
use Rattle.std.specs.Prelude.{IfOk, slice_get}
use Rattle.machine.specs.Texts.{units_of_name}
use Rattle.class_names.specs.Units.{row_units}
use Rattle.class_names.proofs.TextLaws.{spaced, spaced_length, in_name, err_map, get_front, get_behind}
use Rattle.class_names.proofs.own.row_unit.Goals as goal

pub returns-in-Ok-clause-unit : goal.returns-in-Ok-clause-unit
returns-in-Ok-clause-unit c =
    let row = c.args.row.now in
    ap (λ (xs : List ℕ). slice_get xs c.args.k) (spaced row.namespace.now row.name.now c.is_empty.result c.is_empty.ensures c.if-is_empty.false)
    ∙ get_front (units_of_name row.namespace.now) (46 ∷ units_of_name row.name.now) c.args.k c.in-Ok.unit c.in-Ok.ensures.unit

pub returns-in-Err-eq0-clause-unit : goal.returns-in-Err-eq0-clause-unit
returns-in-Err-eq0-clause-unit c =
    let row = c.args.row.now in
    let past = c.in-Err-eq0.ensures.past in
    let zero = c.in-Err-eq0.field-0-test in
    ap (λ (xs : List ℕ). slice_get xs c.args.k) (spaced row.namespace.now row.name.now c.is_empty.result c.is_empty.ensures c.if-is_empty.false)
    ∙ get_behind (units_of_name row.namespace.now) (46 ∷ units_of_name row.name.now) c.args.k 0 (omega (arith, past, zero))

pub returns-in-Err-clause-unit : goal.returns-in-Err-clause-unit
returns-in-Err-clause-unit c =
    let row = c.args.row.now in
    let some = c.in-Err.left-test in
    subst (λ (o : Option ℕ). IfOk c.text_unit-in-Err.result (λ unit. o ≡ Some unit))
    (sym (in_name row.namespace.now row.name.now c.is_empty.result c.args.k c.in-Err.left c.is_empty.ensures c.if-is_empty.false c.in-Err.ensures.past (omega (arith, some))))
    c.text_unit-in-Err.ensures.unit

pub returns-in-Err-clause-past : goal.returns-in-Err-clause-past
returns-in-Err-clause-past c =
    let row = c.args.row.now in
    let some = c.in-Err.left-test in
    let whole = spaced_length row.namespace.now row.name.now c.is_empty.result c.is_empty.ensures c.if-is_empty.false in
    let past = c.in-Err.ensures.past in
    err_map c.text_unit-in-Err.result
    (λ (left : ℕ). c.in-Err.left - 1 ≡ length (units_of_name row.name.now) + left)
    (λ (left : ℕ). c.args.k ≡ length (row_units row) + left)
    (λ left e. omega (arith, whole, past, some, e))
    c.text_unit-in-Err.ensures.past
