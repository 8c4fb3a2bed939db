use Rattle.std.proofs.Common.{◌≡◌, ◌∙◌, false, Some, sym, ap, arith, rules}
use Rattle.std.specs.Option.{option_map}
use Rattle.std.proofs.lemmas.Bool.{not-true}
use Rattle.classes.specs.Queries.{superclass_of}
use Rattle.member_keys.specs.Seen.{class_seen}
use Rattle.class_table.specs.Seen.{classes_seen}
use Rattle.class_order.proofs.ChainLaws.{apart_top, uneven_top, both_up, both_level, longer}
use Rattle.class_order.proofs.chains.meet.Goals as goal

pub returns-in_err-a : goal.returns-in_err-a
returns-in_err-a c =
    let cs = classes_seen c.args.table.now in
    let apart : c.is_same.result ≡ false = first_of (search (rules, c.up-test.true), grind (arith, c.up-test.true, not-true)) in
    ap (option_map class_seen) c.from_residual.ensures
    ∙ apart_top cs c.requires.ends (class_seen c.up.a) (class_seen c.up.b) (sym c.is_same.ensures ∙ apart) c.up.invariant.level (sym c.superclass.ensures ∙ ap (option_map class_seen) c.in_err-a.was)
    ∙ c.up.invariant.same

pub returns-in_err-b : goal.returns-in_err-b
returns-in_err-b c =
    let cs = classes_seen c.args.table.now in
    absurd (uneven_top cs c.requires.ends (class_seen c.up.a) (class_seen c.up.b) (class_seen c.in_ok-a.a) c.up.invariant.level (sym c.superclass.ensures ∙ ap (option_map class_seen) c.in_ok-a.was) (sym c.superclass-in-up.ensures ∙ ap (option_map class_seen) c.in_err-b.was))

pub up-smaller : goal.up-smaller
up-smaller c =
    let cs = classes_seen c.args.table.now in
    let more = longer cs c.requires.ends (class_seen c.up.a) (class_seen c.in_ok-a.a) (sym c.superclass.ensures ∙ ap (option_map class_seen) c.in_ok-a.was) in
    omega (arith, more)

pub up-preserved : goal.up-preserved
up-preserved c =
    let cs = classes_seen c.args.table.now in
    let apart : c.is_same.result ≡ false = first_of (search (rules, c.up-test.true), grind (arith, c.up-test.true, not-true)) in
    let up : superclass_of cs (class_seen c.up.a) ≡ Some (class_seen c.in_ok-a.a) = sym c.superclass.ensures ∙ ap (option_map class_seen) c.in_ok-a.was in
    let on : superclass_of cs (class_seen c.up.b) ≡ Some (class_seen c.in_ok-b.b) = sym c.superclass-in-up.ensures ∙ ap (option_map class_seen) c.in_ok-b.was in
    record {
      level = both_level cs c.requires.ends (class_seen c.up.a) (class_seen c.up.b) (class_seen c.in_ok-a.a) (class_seen c.in_ok-b.b) c.up.invariant.level up on;
      same = both_up cs c.requires.ends (class_seen c.up.a) (class_seen c.up.b) (class_seen c.in_ok-a.a) (class_seen c.in_ok-b.b) (sym c.is_same.ensures ∙ apart) c.up.invariant.level up on ∙ c.up.invariant.same;
    }
