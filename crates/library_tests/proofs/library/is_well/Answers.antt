use Rattle.std.proofs.Common.{◌≡◌, sym, ap, ◌∙◌}
use Rattle.library_tests.specs.Types.{types_there}
use Rattle.library_tests.proofs.WellLaws.{all_well, not_typed, rows_long}
use Rattle.library_tests.proofs.library.is_well.Goals as goal

pub members_well-requires-clause-size : goal.members_well-requires-clause-size
members_well-requires-clause-size c = rows_long c.args.subject.now.world.now c.args.file c.tables.result.now c.tables.ensures c.methods_of-rows.result.now c.methods_of-rows.ensures

pub returns-then-not-has_types : goal.returns-then-not-has_types
returns-then-not-has_types c x here =
    let l = c.in_ok-library.library in
    let files = c.args.subject.now.world.now in
    let told : c.has_types.result ≡ types_there files c.args.file = c.has_types.ensures ∙ ap (λ fs. types_there fs l.own.file) c.in_ok-library.ensures.files ∙ ap (types_there files) c.in_ok-library.ensures.file in
    not_typed files c.args.file x (sym told ∙ c.if-not-has_types.true)

pub returns : goal.returns
returns c x here =
    let l = c.in_ok-library.library in
    let files = c.args.subject.now.world.now in
    let told : c.has_types.result ≡ types_there files c.args.file = c.has_types.ensures ∙ ap (λ fs. types_there fs l.own.file) c.in_ok-library.ensures.files ∙ ap (types_there files) c.in_ok-library.ensures.file in
    c.members_well.ensures
    ∙ all_well files c.args.file c.tables.result.now c.tables.ensures c.methods_of-rows.result.now c.methods_of-rows.ensures x here (sym told ∙ c.if-not-has_types.false)
