use Rattle.std.proofs.Common.{◌≡◌, ℕ, ◌%◌, ◌^◌, ◌<◌, length, Option, Some, ap, ◌∙◌, subst, arith}
use Rattle.std.specs.Prelude.{pos, slice_set}
use Rattle.std.specs.Int.{w32, cast_signed, cast_unsigned}
use Rattle.std.proofs.lemmas.Int.{of_z-to_z}
use Rattle.std.proofs.lemmas.List.{length-set}
use Rattle.board_types.specs.declared.value.Value.{Value}
use Rattle.board_types.specs.declared.value.Value.TheVariants.{Int}
use Rattle.tiny_ram.specs.Things.{Entry}
use Rattle.tiny_ram.specs.Memory.{Memory, with_entry}
use Rattle.tiny_ram.specs.Region.{Keeps}
use Rattle.tiny_native.specs.Texts.{string_entry}
use Rattle.tiny_native.proofs.Memories.{put_last, last_there}
use Rattle.tiny_native.proofs.Writes.{places_more}
use Rattle.tiny_native.proofs.texts.put_unit.Goals as goal

pub returns : goal.returns
returns c m units n w l e =
    let e0 : Entry = string_entry n w.places in
    let thing : ℕ = c.args.thing in
    let i : ℕ = c.args.index in
    let inner : i < length w.places = omega (arith, l, w.count) in
    let bits : ℕ = cast_unsigned w32 (cast_signed w32 (cast_unsigned w32 c.from.result)) in
    let back : bits ≡ c.args.unit = ap (λ z. cast_unsigned w32 (cast_signed w32 (cast_unsigned w32 z))) c.from.ensures ∙ of_z-to_z w32 c.args.unit (omega arith) in
    let fits : bits % 2 ^ 16 ≡ c.args.unit = omega (arith, back) in
    let put : Option Value = Some (Int (pos (bits % 2 ^ 16))) in
    record {
      places = slice_set w.places i put;
      number = w.number;
      keeps = subst (λ (x : Memory). Keeps c.put.new.self x) (put_last m e0 (string_entry n (slice_set w.places i put)) thing w.number)
          (c.put.ensures.thing (with_entry m e0) e0 w.keeps (last_there m e0 thing w.number) inner tt);
      count = length-set w.places i put ∙ w.count;
      first = places_more w.places units i put inner (ap (λ k. Some (Int (pos k))) (fits ∙ e)) w.first;
    }
