use Rattle.std.proofs.Common.{◌≡◌, ◌<◌, ℕ, [], List, Option, Some, None, refl, sym, ap, ◌∙◌, subst, arith}
use Rattle.std.specs.Prelude.{slice_get, length}
use Rattle.board_types.specs.declared.value.Value.{Value as RamValue}
use Rattle.machine.specs.Data.{Value, State}
use Rattle.machine.specs.Numbers.{kept_in}
use Rattle.machine.specs.Throw.{on_some}
use Rattle.ram_words.specs.Elements.{cell_in, type_held}
use Rattle.step_operands.proofs.Places.{kept_some, kept_none}
use Rattle.memory_states.specs.Values.{IsValue}
use Rattle.step_arrays.proofs.Lengths.{elements_are, no_elements}
use Rattle.step_arrays.proofs.Reading.{not_wide, past_end, item, found_value, on_kept}
use Rattle.step_arrays.proofs.elements.element.Goals as goal

pub returns-in_default : goal.returns-in_default
returns-in_default c =
    λ p m e x keeps there is s go.
    no_elements p m.room e x is (c.in_default.ensures m e keeps there) _

pub returns-then-not-is_as_wide : goal.returns-then-not-is_as_wide
returns-then-not-is_as_wide c =
    λ p m e x keeps there is s go.
    let a = elements_are p m.room e x is c.in-Some.array (c.in-Some.ensures m e keeps there) in
    not_wide p m.room e x c.in-Some.array a (cell_in c.args.wide) c.if-not-is_as_wide.ensures s c.args.index go

pub returns-then-index-array : goal.returns-then-index-array
returns-then-index-array c =
    λ p m e x keeps there is s go.
    let a = elements_are p m.room e x is c.in-Some.array (c.in-Some.ensures m e keeps there) in
    past_end p m.room e x c.in-Some.array a (cell_in c.args.wide) c.if-not-is_as_wide.ensures c.args.index c.if-index-array.true s go

pub returns-in-Some-keep_in : goal.returns-in-Some-keep_in
returns-in-Some-keep_in c =
    λ p m e x keeps there is.
    let array = c.in-Some.array in
    let wide = cell_in c.args.wide in
    let n = c.args.index in
    let a = elements_are p m.room e x is array (c.in-Some.ensures m e keeps there) in
    let i = item p m.room e x array a wide c.if-not-is_as_wide.ensures n c.if-index-array.false in
    let value = found_value p m.room e x array a wide c.if-not-is_as_wide.ensures n c.if-index-array.false c.elem_of.result c.elem_of.ensures in
    let shown = subst (λ (r : RamValue). IsValue m.room [] r i.value) (sym (c.get.ensures.thing m e keeps there i.within)) value in
    let kept = kept_some m.room [] c.in-Some-keep_in.value (kept_in wide i.value) (c.in-Some-keep_in.ensures m.room [] i.value shown) in
    (kept.0, λ s go. on_kept p m.room e x array a wide c.if-not-is_as_wide.ensures n c.if-index-array.false (Some kept.0) kept.1 s go, kept.2)

pub returns-in-None : goal.returns-in-None
returns-in-None c =
    λ p m e x keeps there is s go.
    let array = c.in-Some.array in
    let wide = cell_in c.args.wide in
    let n = c.args.index in
    let a = elements_are p m.room e x is array (c.in-Some.ensures m e keeps there) in
    let i = item p m.room e x array a wide c.if-not-is_as_wide.ensures n c.if-index-array.false in
    let value = found_value p m.room e x array a wide c.if-not-is_as_wide.ensures n c.if-index-array.false c.elem_of.result c.elem_of.ensures in
    let shown = subst (λ (r : RamValue). IsValue m.room [] r i.value) (sym (c.get.ensures.thing m e keeps there i.within)) value in
    let none = kept_none m.room [] (kept_in wide i.value) (c.in-None.ensures m.room [] i.value shown) in
    on_kept p m.room e x array a wide c.if-not-is_as_wide.ensures n c.if-index-array.false None none s go
