use Rattle.std.proofs.Common.{◌≡◌, sym, ap, ◌∙◌, subst}
use Rattle.std.specs.Str.{IsUtf8}
use Rattle.std.specs.Str.Iter.{chars_rest}
use Rattle.machine.specs.Texts.{units_of_name}
use Rattle.std.proofs.lemmas.Str.{IsUtf8-past_char}
use Rattle.class_names.proofs.TextLaws.{start, go_on, found, all_past, split_units, no_units}
use Rattle.class_names.proofs.text.text_unit.Goals as goal

pub loop-c-init : goal.loop-c-init
loop-c-init c =
    let same : c.args.text.now ≡ chars_rest c.into_iter-c-iterator.result = sym (ap chars_rest c.into_iter-c-iterator.ensures.into_iter_gives ∙ c.chars-c-items.ensures.rest) in
    (subst IsUtf8 same c.utf8.text, start (units_of_name c.args.text.now) (units_of_name (chars_rest c.into_iter-c-iterator.result)) c.args.k (ap units_of_name same))

pub returns-in-Ok-clause-unit : goal.returns-in-Ok-clause-unit
returns-in-Ok-clause-unit c =
    let held = c.loop-c.invariant in
    found _ _ _ _ c.args.k c.loop-c.left c.in-Ok.unit held.1 (split_units (chars_rest c.loop-c.c-iterator) (chars_rest c.next.new.self) c.in-Some.c held.0 c.in-Some.ensures.steps.0) c.in-Ok.ensures.unit

pub loop-c-preserved : goal.loop-c-preserved
loop-c-preserved c =
    let held = c.loop-c.invariant in
    let parts = c.in-Some.ensures.steps.0 in (
      IsUtf8-past_char _ _ c.in-Some.c held.0 parts,
      go_on _ _ _ _ c.args.k c.loop-c.left c.in-Err.past held.1 (split_units (chars_rest c.loop-c.c-iterator) (chars_rest c.next.new.self) c.in-Some.c held.0 parts) c.in-Err.ensures.past,
    )

pub returns-clause-past : goal.returns-clause-past
returns-clause-past c = let held = c.loop-c.invariant in all_past _ _ c.args.k c.loop-c.left held.1 (no_units (chars_rest c.loop-c.c-iterator) c.in-None.ensures.steps.0.0)
