use Rattle.std.proofs.Common.{◌≡◌, ℕ, ◌-◌, ◌*◌, ◌^◌, ◌≤◌, Bool, true, false, List, length, map, Option, sym, ap, ◌∙◌, arith}
use Rattle.std.specs.Prelude.{not, nat_lt, if◌then◌else◌}
use Rattle.std.proofs.lemmas.Bool.{ltb-false}
use Rattle.board_types.specs.declared.board.Known.TheVariants.{Argument}
use Rattle.board_types.specs.declared.value.Shape.{Shape}
use Rattle.cil_opcodes.specs.declared.shape.IntegerType.{IntegerType}
use Rattle.machine.specs.Data.{Bits, bytes_of, put_thing, Elements, State}
use Rattle.machine.specs.Throw.{goes, raise}
use Rattle.machine.specs.Natives.{numbers_of}
use Rattle.tiny_ram.specs.declared.memory.Ram.{Ram}
use Rattle.tiny_ram.specs.Things.{Entry, Packed, layout_of}
use Rattle.tiny_ram.specs.Region.{Keeps}
use Rattle.board_ids.specs.Ids.{cli_type}
use Rattle.tiny_native.specs.Seen.{Scene, seen}
use Rattle.tiny_native.specs.Copies.{IsElements, elements_of}
use Rattle.tiny_native.specs.Ends.{NewElements}
use Rattle.tiny_native.specs.declared.arrays.ArrayAt.{ArrayAt}
use Rattle.tiny_native.proofs.Held.{entry_count}
use Rattle.tiny_native.proofs.TypeLemmas.{array_layout}
use Rattle.tiny_native.proofs.Filling.{counted, few_elements}
use Rattle.tiny_native.proofs.Spelled.{filled_values}
use Rattle.tiny_native.proofs.fields.fill_numbers.Goals as goal

-- what is done as the bytes are too few or do
abbrev ended : Scene → ℕ → Entry → IntegerType → List ℕ → Bool → Option State
ended s thing e integer bytes q =
    if q then raise s.program s.state Argument
    else goes s.program (record s.state { heap = put_thing s.state.heap (thing - 1) (Elements (cli_type e.shape.of) (numbers_of integer (length (elements_of s e)) bytes)) }) s.frame s.callers s.next s.rest

numbers_in : (s : Scene) (x : ArrayAt) (e : Entry) (integer : IntegerType) (h : IsElements s x e) → h.cell ≡ Bits integer → layout_of e.shape ≡ Packed (Bits integer)
numbers_in s x e integer h q = array_layout e.shape h.cell h.what h.packed ∙ ap Packed q

few : (s : Scene) (u : Ram) (x : ArrayAt) (e : Entry) (integer : IntegerType) → Keeps u s.memory → (h : IsElements s x e) → h.cell ≡ Bits integer → x.shape.count ≤ 12 * 2 ^ 22
few s u x e integer k h q =
    let f : e.shape.count ≤ 12 * 2 ^ 22 = few_elements u s.memory x.thing e integer k h.is (numbers_in s x e integer h q) in
    let same : x.shape.count ≡ e.shape.count = ap (λ (t : Shape). t.count) h.same in
    omega (arith, f, same)

not_back : (a b : Bool) → a ≡ not b → b ≡ not a
not_back a true e = ap not (sym e)
not_back a false e = ap not (sym e)

pub returns-then-not-has_numbers : goal.returns-then-not-has_numbers
returns-then-not-has_numbers g c s e h x q =
    let bytes : List ℕ = g.S.Subclass.bytes c.args.types.now c.args.field in
    let enough : c.has_numbers.result ≡ not (nat_lt (length bytes) (c.args.array.shape.count * bytes_of c.args.integer)) = c.has_numbers.ensures.enough (few s c.args.ram.now c.args.array e c.args.integer h.keeps x q) in
    let test : nat_lt (length bytes) (length (elements_of s e) * bytes_of c.args.integer) ≡ true =
    ap (λ n. nat_lt (length bytes) (n * bytes_of c.args.integer)) (counted s c.args.ram.now c.args.array e h.keeps x)
    ∙ not_back c.has_numbers.result (nat_lt (length bytes) (c.args.array.shape.count * bytes_of c.args.integer)) enough
    ∙ ap not c.if-not-has_numbers.true in
    (h.keeps, ap (ended s c.args.array.thing e c.args.integer bytes) test)

pub returns : goal.returns
returns g c s e h x q =
    let bytes : List ℕ = g.S.Subclass.bytes c.args.types.now c.args.field in
    let count : ℕ = c.args.array.shape.count in
    let enough : c.has_numbers.result ≡ not (nat_lt (length bytes) (count * bytes_of c.args.integer)) = c.has_numbers.ensures.enough (few s c.args.ram.now c.args.array e c.args.integer h.keeps x q) in
    let fits : nat_lt (length bytes) (count * bytes_of c.args.integer) ≡ false =
    not_back c.has_numbers.result (nat_lt (length bytes) (count * bytes_of c.args.integer)) enough ∙ ap not c.if-not-has_numbers.false in
    let long : length (elements_of s e) ≡ count = counted s c.args.ram.now c.args.array e h.keeps x in
    let places : count ≡ length e.places = ap (λ (t : Shape). t.count) x.same ∙ sym (entry_count c.args.ram.now s.memory c.args.array.thing e h.keeps x.is) in
    let filled = c.put_numbers.ensures s.memory s.leads e x.is (numbers_in s c.args.array e c.args.integer x q) places (ltb-false (length bytes) (count * bytes_of c.args.integer) fits) h.keeps in
    let same : numbers_of c.args.integer (length (elements_of s e)) bytes ≡ map (seen s.leads) filled.places =
    ap (λ n. numbers_of c.args.integer n bytes) long ∙ filled_values s.leads c.args.integer bytes filled.places count (filled.count ∙ sym places) filled.first in
    record {
      change = NewElements c.args.array.thing (record e { places = filled.places });
      keeps = filled.keeps;
      outcome =
          ap (ended s c.args.array.thing e c.args.integer bytes) (ap (λ n. nat_lt (length bytes) (n * bytes_of c.args.integer)) long ∙ fits)
          ∙ ap (λ vs. goes s.program (record s.state { heap = put_thing s.state.heap (c.args.array.thing - 1) (Elements (cli_type e.shape.of) vs) }) s.frame s.callers s.next s.rest) same;
    }
