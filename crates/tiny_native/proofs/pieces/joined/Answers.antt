use Rattle.std.proofs.Common.{◌≡◌, ℕ, ◌+◌, length, refl, arith}
use Rattle.std.proofs.lemmas.List.{length-replicate}
use Rattle.machine.specs.Natives.{or_empty}
use Rattle.tiny_ram.specs.Things.{Entry, fresh, fresh_place, layout_of, string_shape}
use Rattle.tiny_ram.specs.Memory.{Memory, IsEntry, with_entry, put_in}
use Rattle.tiny_native.specs.Texts.{string_entry}
use Rattle.tiny_native.proofs.Memories.{last_there, put_there}
use Rattle.tiny_native.proofs.Concat.{text_count, text_small, text_made, text_put, joined_text}
use Rattle.tiny_native.proofs.pieces.joined.Goals as goal

pub returns-in-Ok : goal.returns-in-Ok
returns-in-Ok c m a b keeps tx ty =
    let made = c.in-Ok.ensures.made m keeps in
    let thing : ℕ = c.in-Ok.thing in
    let x : ℕ = c.args.x.count in
    let y : ℕ = c.args.y.count in
    let n : ℕ = x + y in
    let e0 : Entry = fresh (string_shape n) in
    let m1 : Memory = with_entry m e0 in
    let there : IsEntry m1 thing e0 = last_there m e0 thing made.1 in
    let size : length e0.places ≡ n = length-replicate n (fresh_place (layout_of (string_shape n))) in
    let first = c.put_text.ensures m1 e0 a made.2 there refl (text_made m e0 c.args.x.thing x a tx) (omega (arith, size)) in
    let e1 : Entry = string_entry n first.places in
    let second = c.put_text-in-Ok.ensures (put_in m1 thing e1) e1 b first.keeps (put_there m1 e0 e1 thing there refl) refl (text_put m e0 e1 thing c.args.y.thing y b made.1 refl ty) (omega (arith, size, first.laid.count)) in (
      made.1,
      joined_text c.put_text.new.ram c.put_text-in-Ok.new.ram m thing n x y (or_empty a) (or_empty b) made.1 refl (text_count m c.args.x.thing x a tx) (text_count m c.args.y.thing y b ty)
          (text_small c.args.ram.now m c.args.x.thing x a keeps tx) (text_small c.args.ram.now m c.args.y.thing y b keeps ty) first second,
    )
