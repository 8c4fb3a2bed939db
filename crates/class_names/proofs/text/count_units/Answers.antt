use Rattle.std.proofs.Common.{◌≡◌, List, ℕ, length, sym, ap, ◌∙◌, subst, arith}
use Rattle.std.specs.Char.Escape.{encode_utf16}
use Rattle.std.specs.Str.{IsUtf8}
use Rattle.std.specs.Str.Iter.{chars_rest}
use Rattle.machine.specs.Texts.{units_of_name}
use Rattle.std.proofs.lemmas.Str.{IsUtf8-past_char}
use Rattle.class_names.proofs.TextLaws.{split_units, no_units, joined_length, unit_count, one_more}
use Rattle.class_names.proofs.text.count_units.Goals as goal

pub loop-c-init : goal.loop-c-init
loop-c-init c =
    let same : c.args.text.now ≡ chars_rest c.into_iter-c-iterator.result = sym (ap chars_rest c.into_iter-c-iterator.ensures.into_iter_gives ∙ c.chars-c-items.ensures.rest) in
    let units = ap (λ (xs : List ℕ). length (units_of_name xs)) same in
    let bytes = ap (λ (xs : List ℕ). length xs) same in
    record { text = subst IsUtf8 same c.utf8.text; count = omega (arith, units); few = omega (arith, bytes) }

pub overflow_add-count : goal.overflow_add-count
overflow_add-count c =
    let held = c.loop-c.invariant.few in
    let more = one_more (chars_rest c.loop-c.c-iterator) (chars_rest c.next.new.self) c.in-Some.c c.len_utf16.result c.len_utf16.ensures.bmp c.len_utf16.ensures.surrogate_pair c.in-Some.ensures.steps.0 in
    let rest : chars_rest c.chars-c-items.result ≡ c.args.text.now = c.chars-c-items.ensures.rest in
    let whole = ap (λ (xs : List ℕ). length xs) rest in
    omega (arith, held, more, whole, c.chars-c-items.ensures.len)

pub loop-c-preserved : goal.loop-c-preserved
loop-c-preserved c =
    let held = c.loop-c.invariant in
    let parts = c.in-Some.ensures.steps.0 in
    let counted = unit_count c.in-Some.c c.len_utf16.result c.len_utf16.ensures.bmp c.len_utf16.ensures.surrogate_pair in
    let units = ap (λ (xs : List ℕ). length xs) (split_units (chars_rest c.loop-c.c-iterator) (chars_rest c.next.new.self) c.in-Some.c held.text parts) in
    let joined = joined_length (encode_utf16 c.in-Some.c) (units_of_name (chars_rest c.next.new.self)) in
    let more = one_more (chars_rest c.loop-c.c-iterator) (chars_rest c.next.new.self) c.in-Some.c c.len_utf16.result c.len_utf16.ensures.bmp c.len_utf16.ensures.surrogate_pair parts in
    let count = held.count in
    let few = held.few in
    record {
      text = IsUtf8-past_char _ _ c.in-Some.c held.text parts;
      count = omega (arith, count, counted, units, joined);
      few = omega (arith, few, more);
    }

pub returns-clause-count : goal.returns-clause-count
returns-clause-count c =
    let count = c.loop-c.invariant.count in
    let none = ap (λ (xs : List ℕ). length xs) (no_units (chars_rest c.loop-c.c-iterator) c.in-None.ensures.steps.0.0) in
    omega (arith, count, none)

pub returns-clause-most : goal.returns-clause-most
returns-clause-most c = let few = c.loop-c.invariant.few in omega (arith, few)
