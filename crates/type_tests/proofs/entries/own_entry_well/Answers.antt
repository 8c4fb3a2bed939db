use Rattle.std.proofs.Common.{◌≤◌, ap, sym, ◌∙◌, arith}
use Rattle.std.specs.Prelude.{◌&&◌, not}
use Rattle.verdict_rules.specs.World.{world_of}
use Rattle.verdict_rules.specs.Types.{begins_in}
use Rattle.type_tests.specs.Columns.{precedes}
use Rattle.type_tests.proofs.EntryLaws.{own_is}
use Rattle.type_tests.proofs.entries.own_entry_well.Goals as goal

pub returns-then-not-has_earlier : goal.returns-then-not-has_earlier
returns-then-not-has_earlier c x at =
    let files = c.args.subject.now.world.now in
    let behind : 2 ≤ c.args.file = omega (arith, c.if-file-ge-FIRST_USER_FILE.true) in
    let entered = sym c.has_entry.ensures ∙ c.if-has_entry.true in
    c.begins_in.ensures
    ∙ sym
    (own_is files c.args.file behind x at c.pe.result.now c.pe.ensures entered c.has_earlier.result (c.has_earlier.ensures ∙ ap (precedes c.args.file) c.requires.entries.first)
    ∙ ap (λ b. not b && begins_in (world_of files) c.args.file) c.if-not-has_earlier.true)

pub returns-else-not-has_earlier : goal.returns-else-not-has_earlier
returns-else-not-has_earlier c x at =
    let files = c.args.subject.now.world.now in
    let behind : 2 ≤ c.args.file = omega (arith, c.if-file-ge-FIRST_USER_FILE.true) in
    let entered = sym c.has_entry.ensures ∙ c.if-has_entry.true in
    ap not c.if-not-has_earlier.false
    ∙ sym
    (own_is files c.args.file behind x at c.pe.result.now c.pe.ensures entered c.has_earlier.result (c.has_earlier.ensures ∙ ap (precedes c.args.file) c.requires.entries.first)
    ∙ ap (λ b. not b && begins_in (world_of files) c.args.file) c.if-not-has_earlier.false)
