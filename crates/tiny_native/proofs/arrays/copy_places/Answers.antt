use Rattle.std.proofs.Common.{◌≡◌, ℕ, ◌+◌, ◌-◌, ◌<◌, ◌≤◌, Bool, false, Option, None, length, map, sym, ap, ◌∙◌, subst, arith, get_or}
use Rattle.std.specs.Prelude.{nat_lt, ◌||◌, if◌then◌else◌}
use Rattle.std.proofs.lemmas.Bool.{ltb-false}
use Rattle.std.proofs.lemmas.List.{length-map}
use Rattle.board_types.specs.declared.board.Known.TheVariants.{Argument}
use Rattle.machine.specs.Data.{put_thing, Elements, State}
use Rattle.machine.specs.Throw.{goes, raise}
use Rattle.machine.specs.Natives.{piece, spliced}
use Rattle.ram_words.specs.Elements.{type_held}
use Rattle.tiny_ram.specs.Things.{Entry, Packed, layout_of}
use Rattle.board_ids.specs.Ids.{cli_type}
use Rattle.tiny_native.specs.Seen.{Scene, seen}
use Rattle.tiny_native.specs.Copies.{AllHaveKind, PlaceHasKind, elements_of}
use Rattle.tiny_native.specs.Ends.{NewElements}
use Rattle.tiny_native.proofs.Held.{Element, element_held}
use Rattle.tiny_native.proofs.Filling.{counted}
use Rattle.tiny_native.proofs.TypeLemmas.{array_layout}
use Rattle.tiny_native.proofs.Spliced.{laid_spliced, seen_spliced, or_first, or_second}
use Rattle.tiny_native.proofs.arrays.copy_places.Goals as goal

-- what is done as the ranges pass or don't
abbrev ended : Scene → ℕ → Entry → Entry → ℕ → ℕ → ℕ → Bool → Option State
ended s thing d e from to count q =
    if q then raise s.program s.state Argument
    else goes s.program (record s.state { heap = put_thing s.state.heap (thing - 1) (Elements (cli_type e.shape.of) (spliced (elements_of s e) to (piece from count (elements_of s d)))) }) s.frame s.callers s.next s.rest

pub returns-then-passes : goal.returns-then-passes
returns-then-passes c s d e h a b same =
    let la : length (elements_of s d) ≡ c.args.source.shape.count = counted s c.args.ram.now c.args.source d h.keeps a in
    let lb : length (elements_of s e) ≡ c.args.target.shape.count = counted s c.args.ram.now c.args.target e h.keeps b in
    let tests : (nat_lt (length (elements_of s d)) (c.args.from + c.args.count) || nat_lt (length (elements_of s e)) (c.args.to + c.args.count)) ≡ c.passes.result =
    ap (λ x. nat_lt x (c.args.from + c.args.count) || nat_lt (length (elements_of s e)) (c.args.to + c.args.count)) la
    ∙ ap (λ x. nat_lt c.args.source.shape.count (c.args.from + c.args.count) || nat_lt x (c.args.to + c.args.count)) lb
    ∙ sym c.passes.ensures in
    (h.keeps, ap (ended s c.args.target.thing d e c.args.from c.args.to c.args.count) (tests ∙ c.if-passes.true))

pub returns : goal.returns
returns c s d e h a b same =
    let la : length (elements_of s d) ≡ c.args.source.shape.count = counted s c.args.ram.now c.args.source d h.keeps a in
    let lb : length (elements_of s e) ≡ c.args.target.shape.count = counted s c.args.ram.now c.args.target e h.keeps b in
    let tests : (nat_lt (length (elements_of s d)) (c.args.from + c.args.count) || nat_lt (length (elements_of s e)) (c.args.to + c.args.count)) ≡ false =
    ap (λ x. nat_lt x (c.args.from + c.args.count) || nat_lt (length (elements_of s e)) (c.args.to + c.args.count)) la
    ∙ ap (λ x. nat_lt c.args.source.shape.count (c.args.from + c.args.count) || nat_lt x (c.args.to + c.args.count)) lb
    ∙ sym c.passes.ensures ∙ c.if-passes.false in
    let long_a : length (elements_of s d) ≡ length d.places = length-map d.places (seen s.leads) in
    let long_b : length (elements_of s e) ≡ length e.places = length-map e.places (seen s.leads) in
    let in_a : c.args.from + c.args.count ≤ length (elements_of s d) = ltb-false (length (elements_of s d)) (c.args.from + c.args.count) (or_first (nat_lt (length (elements_of s d)) (c.args.from + c.args.count)) (nat_lt (length (elements_of s e)) (c.args.to + c.args.count)) tests) in
    let in_b : c.args.to + c.args.count ≤ length (elements_of s e) = ltb-false (length (elements_of s e)) (c.args.to + c.args.count) (or_second (nat_lt (length (elements_of s d)) (c.args.from + c.args.count)) (nat_lt (length (elements_of s e)) (c.args.to + c.args.count)) tests) in
    let room_a : c.args.from + c.args.count ≤ length d.places = omega (arith, in_a, long_a) in
    let room_b : c.args.to + c.args.count ≤ length e.places = omega (arith, in_b, long_b) in
    let layout : layout_of d.shape ≡ Packed b.cell = array_layout d.shape b.cell a.what (ap type_held same ∙ b.packed) in
    let held : (k : ℕ) → k < length d.places → Element b.cell (get_or d.places k None) = element_held c.args.ram.now s.memory c.args.source.thing d b.cell h.keeps a.is layout in
    let kinds : AllHaveKind b.cell d.places c.args.from c.args.count = λ k l.
    let inner : c.args.from + k < length d.places = omega (arith, room_a, l) in
    let el : Element b.cell (get_or d.places (c.args.from + k) None) = held (c.args.from + k) inner in
    subst (PlaceHasKind b.cell) (sym el.is) el.fits.kind in
    let copied = c.copy.ensures s.memory d e b.cell h.keeps a.is b.is (array_layout e.shape b.cell b.what b.packed) room_a room_b kinds in
    let same_values : map (seen s.leads) copied.places ≡ spliced (elements_of s e) c.args.to (piece c.args.from c.args.count (elements_of s d)) =
    seen_spliced s.leads copied.places e.places d.places c.args.from c.args.to c.args.count (laid_spliced b.cell d.places e.places copied.places c.args.from c.args.to c.args.count room_a room_b held copied.laid) in
    record {
      change = NewElements c.args.target.thing (record e { places = copied.places });
      keeps = copied.keeps;
      outcome =
          ap (ended s c.args.target.thing d e c.args.from c.args.to c.args.count) tests
          ∙ ap (λ vs. goes s.program (record s.state { heap = put_thing s.state.heap (c.args.target.thing - 1) (Elements (cli_type e.shape.of) vs) }) s.frame s.callers s.next s.rest) (sym same_values);
    }
