use Rattle.std.proofs.Common.{◌≡◌, ℕ, length, refl, arith}
use Rattle.std.proofs.lemmas.List.{length-replicate}
use Rattle.cil_opcodes.specs.declared.shape.IntegerType.TheVariants.{U2}
use Rattle.machine.specs.Data.{Bits}
use Rattle.tiny_ram.specs.Things.{Entry, fresh, fresh_place, layout_of, string_shape}
use Rattle.tiny_ram.specs.Memory.{with_entry}
use Rattle.tiny_native.proofs.Joined.{copied_text, named_stays}
use Rattle.tiny_native.proofs.Memories.{last_there}
use Rattle.tiny_native.proofs.texts.copied.Goals as goal

pub returns-in-Ok : goal.returns-in-Ok
returns-in-Ok c m e keeps is room kinds =
    let made = c.in-Ok.ensures.made m keeps in
    let n : ℕ = c.args.count in
    let e0 : Entry = fresh (string_shape n) in
    let size : length e0.places ≡ n = length-replicate n (fresh_place (layout_of (string_shape n))) in
    let copied = c.copy.ensures (with_entry m e0) e e0 (Bits U2) made.2 (named_stays m e e0 c.args.from.thing is) (last_there m e0 c.in-Ok.thing made.1) refl room (omega (arith, size)) kinds in
    (made.1, copied_text c.copy.new.ram m c.in-Ok.thing c.args.from.index n e.places made.1 room kinds copied)
