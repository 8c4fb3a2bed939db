use Rattle.std.proofs.Common.{◌≡◌, ◌∙◌, ◌-◌, ◌<◌, length, sym, ap, arith}
use Rattle.std.specs.Option.{option_map}
use Rattle.classes.specs.Queries.{chain}
use Rattle.member_keys.specs.Seen.{class_seen}
use Rattle.class_table.specs.Seen.{classes_seen}
use Rattle.class_order.proofs.ChainLaws.{climbed_there, levelled}
use Rattle.class_order.proofs.chains.common_superclass.Goals as goal

pub returns-in_err-level_a : goal.returns-in_err-level_a
returns-in_err-level_a c =
    let cs = classes_seen c.args.table.now in
    let low : c.saturating_sub.result < length (chain cs (class_seen c.args.a)) = omega (arith, c.count_above-above_a.ensures, c.saturating_sub.ensures) in
    absurd (climbed_there cs c.requires c.saturating_sub.result (class_seen c.args.a) low (sym c.climb.ensures ∙ ap (option_map class_seen) c.in_err-level_a.was))

pub returns-in_err-level_b : goal.returns-in_err-level_b
returns-in_err-level_b c =
    let cs = classes_seen c.args.table.now in
    let low : c.saturating_sub-2.result < length (chain cs (class_seen c.args.b)) = omega (arith, c.count_above-above_b.ensures, c.saturating_sub-2.ensures) in
    absurd (climbed_there cs c.requires c.saturating_sub-2.result (class_seen c.args.b) low (sym c.climb-2.ensures ∙ ap (option_map class_seen) c.in_err-level_b.was))

pub meet-requires-clause-level : goal.meet-requires-clause-level
meet-requires-clause-level c =
    let cs = classes_seen c.args.table.now in
    let first : c.saturating_sub.result ≡ length (chain cs (class_seen c.args.a)) - length (chain cs (class_seen c.args.b)) = omega (arith, c.count_above-above_a.ensures, c.count_above-above_b.ensures, c.saturating_sub.ensures) in
    let second : c.saturating_sub-2.result ≡ length (chain cs (class_seen c.args.b)) - length (chain cs (class_seen c.args.a)) = omega (arith, c.count_above-above_a.ensures, c.count_above-above_b.ensures, c.saturating_sub-2.ensures) in
    (levelled cs c.requires c.saturating_sub.result c.saturating_sub-2.result (class_seen c.args.a) (class_seen c.args.b) (class_seen c.in_ok-level_a.level_a) (class_seen c.in_ok-level_b.level_b) first second (sym c.climb.ensures ∙ ap (option_map class_seen) c.in_ok-level_a.was) (sym c.climb-2.ensures ∙ ap (option_map class_seen) c.in_ok-level_b.was)).0

pub returns : goal.returns
returns c =
    let cs = classes_seen c.args.table.now in
    let first : c.saturating_sub.result ≡ length (chain cs (class_seen c.args.a)) - length (chain cs (class_seen c.args.b)) = omega (arith, c.count_above-above_a.ensures, c.count_above-above_b.ensures, c.saturating_sub.ensures) in
    let second : c.saturating_sub-2.result ≡ length (chain cs (class_seen c.args.b)) - length (chain cs (class_seen c.args.a)) = omega (arith, c.count_above-above_a.ensures, c.count_above-above_b.ensures, c.saturating_sub-2.ensures) in
    c.meet.ensures
    ∙ (levelled cs c.requires c.saturating_sub.result c.saturating_sub-2.result (class_seen c.args.a) (class_seen c.args.b) (class_seen c.in_ok-level_a.level_a) (class_seen c.in_ok-level_b.level_b) first second (sym c.climb.ensures ∙ ap (option_map class_seen) c.in_ok-level_a.was) (sym c.climb-2.ensures ∙ ap (option_map class_seen) c.in_ok-level_b.was)).1
