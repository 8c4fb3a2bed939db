use Rattle.std.proofs.Common.{◌≡◌, Option, Some, None, sym, ap, ◌∙◌, subst}
use Rattle.board_types.specs.declared.value.Shape.{Shape}
use Rattle.machine.specs.Data.{Cell, Bits}
use Rattle.ram_words.specs.Elements.{cell_in, type_held}
use Rattle.tiny_native.specs.Told.{elements_set}
use Rattle.tiny_native.specs.Ends.{Meets}
use Rattle.tiny_native.proofs.fields.fill.Goals as goal

pub returns-in-Some-Number : goal.returns-in-Some-Number
returns-in-Some-Number g c s e h x =
    let bytes = g.S.Subclass.bytes c.args.types.now c.args.field in
    let held : Some x.cell ≡ Some (Bits c.in-Some-Number.integer) =
    sym x.packed ∙ sym (ap (λ (t : Shape). type_held t.of) x.same) ∙ sym c.in-Some-Number.ensures ∙ ap (λ k. Some (cell_in k)) c.in-Some-Number.field-0-is in
    let cell : x.cell ≡ Bits c.in-Some-Number.integer = ap (λ (o : Option Cell). cell_or o x.cell) held in
    subst (λ k. Meets s c.fill_numbers.new.ram (elements_set s c.args.array.thing e bytes k) c.fill_numbers.result) (sym cell) (c.fill_numbers.ensures s e h x cell)
  where
    cell_or : Option Cell → Cell → Cell
    cell_or None d = d
    cell_or (Some k) d = k
