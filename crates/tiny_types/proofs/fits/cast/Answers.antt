use Rattle.std.proofs.Common.{◌≡◌, ◌⊎◌, inl, inr, ◌∙◌, ◌<◌, ◌≤◌, sym, ap, arith}
use Rattle.std.proofs.lemmas.Bool.{cases_lt}
use Rattle.classes.specs.Queries.{fits}
use Rattle.class_order.specs.Types.{base_seen}
use Rattle.class_table.specs.Seen.{classes_seen}
use Rattle.board_ids.specs.Ids.{cli_type, plain_type}
use Rattle.tiny_types.proofs.FitLaws.{fewer_brackets, more_brackets, no_brackets, none_wanted, same_brackets}
use Rattle.tiny_types.proofs.fits.cast.Goals as goal

pub returns-then-from-to : goal.returns-then-from-to
returns-then-from-to c = sym (fewer_brackets (classes_seen c.args.types.now) c.args.from c.args.to c.if-from-to.true)

pub returns-then-to-from : goal.returns-then-to-from
returns-then-to-from c = go (cases_lt 0 c.args.to.ranks)
  where
    go : (0 < c.args.to.ranks) ⊎ (c.args.to.ranks ≤ 0) → c.takes_arrays.result ≡ fits (classes_seen c.args.types.now) (cli_type c.args.from) (cli_type c.args.to)
    go (inl some) = c.takes_arrays.ensures.arrays some ∙ sym (more_brackets (classes_seen c.args.types.now) c.args.from c.args.to c.if-to-from.true some)
    go (inr few) =
        let none : c.args.to.ranks ≡ 0 = omega (arith, few) in
        c.takes_arrays.ensures.one none ∙ sym (none_wanted (classes_seen c.args.types.now) c.args.from c.args.to c.if-to-from.true none)

pub returns-then-to-gt0 : goal.returns-then-to-gt0
returns-then-to-gt0 c =
    let same : c.args.from.ranks ≡ c.args.to.ranks = omega (arith, c.if-from-to.false, c.if-to-from.false) in
    c.elements_fit.ensures ∙ sym (same_brackets (classes_seen c.args.types.now) c.args.from c.args.to same c.if-to-gt0.true)

pub returns-else-to-gt0 : goal.returns-else-to-gt0
returns-else-to-gt0 c =
    let cs = classes_seen c.args.types.now in
    let none : c.args.to.ranks ≡ 0 = omega (arith, c.if-to-gt0.false) in
    let first : c.args.from.ranks ≡ 0 = omega (arith, c.if-to-from.false, none) in
    c.base_fits.ensures
    ∙ ap (λ x. fits cs x (base_seen c.base_of-to_base.result)) c.base_of-from_base.ensures
    ∙ ap (fits cs (plain_type c.args.from.elem c.args.from.of)) c.base_of-to_base.ensures
    ∙ sym (no_brackets cs c.args.from c.args.to first none)
