use Rattle.std.proofs.Common.{◌≡◌, ℕ, ◌+◌, ◌<◌, ◌≤◌, List, length, Some, refl, sym, ap, ◌∙◌, subst, arith}
use Rattle.std.specs.Prelude.{slice_set}
use Rattle.std.proofs.lemmas.List.{length-set}
use Rattle.plain_types.specs.declared.elem.Elem.TheVariants.{Void}
use Rattle.board_types.specs.declared.value.Value.{Value}
use Rattle.machine.specs.Data.{Bits, bytes_of}
use Rattle.ram_words.specs.Elements.{cut_by}
use Rattle.tiny_ops.specs.Operators.{stack_value}
use Rattle.tiny_ram.specs.Things.{Entry, Layout, Takes, stored_by, layout_of}
use Rattle.tiny_ram.specs.Memory.{Memory, put_in}
use Rattle.tiny_ram.specs.Region.{Keeps}
use Rattle.tiny_native.specs.Told.{number_at}
use Rattle.tiny_native.proofs.Memories.{put_twice, put_there}
use Rattle.tiny_native.proofs.Spelled.{filled_more}
use Rattle.tiny_native.proofs.fields.put_number.Goals as goal

pub returns : goal.returns
returns g c m l e is layout inside enough f =
    let bytes : List ℕ = g.S.Subclass.bytes c.args.types.now c.args.field in
    let thing : ℕ = c.args.to.thing in
    let index : ℕ = c.args.to.index in
    let value : Value = c.number-value.result in
    let stored : Value = cut_by (Some (Bits c.args.integer)) value in
    let now : Entry = record e { places = f.places } in
    let later : Entry = record e { places = slice_set f.places index (Some stored) } in
    let inner : index < length f.places = omega (arith, inside, f.count) in
    let takes : Takes (layout_of e.shape) value = subst (λ (x : Layout). Takes x value) (sym layout) c.number-value.ensures.kind in
    let put = c.put.ensures.thing (put_in m thing now) now f.keeps (put_there m e now thing is refl) inner takes in
    let kept : Keeps c.put.new.self (put_in (put_in m thing now) thing later) =
    subst (λ (w : Value). Keeps c.put.new.self (put_in (put_in m thing now) thing (record e { places = slice_set f.places index (Some w) }))) (ap (λ (x : Layout). stored_by x Void value) layout) put in
    let room : c.bytes_in.result + bytes_of c.args.integer ≤ length bytes = omega (arith, enough, c.bytes_in.ensures.exact) in
    let spelled : stack_value l stored ≡ number_at c.args.integer bytes c.bytes_in.result = c.number-value.ensures.value l room in
    record {
      places = slice_set f.places index (Some stored);
      keeps = subst (λ (x : Memory). Keeps c.put.new.self x) (put_twice m e now later thing is refl) kept;
      count = length-set f.places index (Some stored) ∙ f.count;
      first = filled_more l c.args.integer bytes f.places index stored inner (spelled ∙ ap (number_at c.args.integer bytes) c.bytes_in.ensures.exact) f.first;
    }
