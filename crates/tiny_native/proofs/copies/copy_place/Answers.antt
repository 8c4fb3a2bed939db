use Rattle.std.proofs.Common.{◌≡◌, Option, Some, None, sym, ap, ◌∙◌, subst, get_or}
use Rattle.std.specs.Prelude.{slice_set}
use Rattle.plain_types.specs.declared.elem.Elem.TheVariants.{Void}
use Rattle.board_types.specs.declared.value.Value.{Value}
use Rattle.ram_words.specs.Elements.{HasKind, cut_by}
use Rattle.tiny_ram.specs.Things.{Layout, Takes, stored_by, layout_of}
use Rattle.tiny_ram.specs.Memory.{put_in, shown}
use Rattle.std.proofs.lemmas.Option.{unwrap_or-slice_get}
use Rattle.tiny_ram.specs.Region.{Keeps}
use Rattle.tiny_native.specs.Copies.{cut_place}
use Rattle.tiny_native.proofs.Copying.{read_kind}
use Rattle.tiny_native.proofs.copies.copy_place.Goals as goal

pub returns : goal.returns
returns c m d e cell keeps ha hb p la lb kind =
    let value : Value = c.read-value.result in
    let held : Option Value = get_or d.places c.args.from.index None in
    let r : HasKind cell value × (Some (cut_by (Some cell) value) ≡ cut_place cell held) = read_kind cell held value (c.read-value.ensures m d keeps ha la ∙ ap (shown Void) (unwrap_or-slice_get d.places c.args.from.index None)) kind in
    let takes : Takes (layout_of e.shape) value = subst (λ (x : Layout). Takes x value) (sym p) r.0 in
    let stored : Some (stored_by (layout_of e.shape) Void value) ≡ cut_place cell held = ap (λ (x : Layout). Some (stored_by x Void value)) p ∙ r.1 in
    subst (λ (w : Option Value). Keeps c.put.new.self (put_in m c.args.to.thing (record e { places = slice_set e.places c.args.to.index w }))) stored (c.put.ensures.thing m e keeps hb lb takes)
