use Rattle.class_table.specs.Seen.{classes_seen}
use Rattle.std.proofs.Common.{◌+◌, sym, ap, subst, ◌∙◌}
use Rattle.verdict_rules.specs.World.{world_of}
use Rattle.verify_ops.specs.Effects.{Leaves, effect_of}
use Rattle.pass_steps.specs.Seen.{fits_seen}
use Rattle.pass_steps.proofs.ActLaws.{breaks, leaves}
use Rattle.pass_steps.proofs.OrderLaws.{up_order}
use Rattle.method_pass.proofs.CodeLaws.{broke, instructions_agree}
use Rattle.method_pass.proofs.MethodLaws.{told_here}
use Rattle.method_pass.proofs.WholeLaws.{is_whole}
use Rattle.method_pass.proofs.acts.act.Goals as goal

pub returns-in-Ok : goal.returns-in-Ok
returns-in-Ok c =
    λ listed s a found sound.
    let w = world_of c.args.steps.now.world.now in
    let file = c.args.steps.now.file in
    let b = c.args.steps.now.listing.now in
    let at = c.args.at in
    let instr = c.args.instr.now in
    let row = c.args.row in
    let t = told_here c.args.steps.now listed a at s found instr row c.requires.stands c.requires.row in
    let known = c.in_ok-facts.ensures listed a c.requires.row in
    let whole = is_whole a.part.metadata w.size w.rows file b.code at (at + instr.length) instr.operand instr.op row c.requires.row in
    let fits = fits_seen w.sources in
    let told = subst (λ r. Leaves r c.give_rows.new.stack.items c.apply.new.stack.items (effect_of fits instr c.in_ok-facts.facts c.give_rows.new.stack.items)) c.in-Ok.is (c.apply.ensures fits (instructions_agree c.args.steps.now.world.now (classes_seen c.args.steps.now.lattice.now) a.lattice)) in
    let effect = ap (effect_of fits instr c.in_ok-facts.facts) (sym c.give_rows.ensures) ∙ told in
    leaves w file a.part a.method b (record { at = at; instr = instr }) row s c.in_ok-facts.facts fits c.requires.row t sound (up_order w.sources) known whole c.args.stack.now.items c.apply.new.stack.items effect

pub returns-in-Err-Broken : goal.returns-in-Err-Broken
returns-in-Err-Broken c =
    λ listed s a found sound.
    let w = world_of c.args.steps.now.world.now in
    let file = c.args.steps.now.file in
    let b = c.args.steps.now.listing.now in
    let at = c.args.at in
    let instr = c.args.instr.now in
    let row = c.args.row in
    let t = told_here c.args.steps.now listed a at s found instr row c.requires.stands c.requires.row in
    let known = c.in_ok-facts.ensures listed a c.requires.row in
    let whole = is_whole a.part.metadata w.size w.rows file b.code at (at + instr.length) instr.operand instr.op row c.requires.row in
    let fits = fits_seen w.sources in
    let raw = subst (λ r. Leaves r c.give_rows.new.stack.items c.apply.new.stack.items (effect_of fits instr c.in_ok-facts.facts c.give_rows.new.stack.items)) c.in-Err-Broken.is (c.apply.ensures fits (instructions_agree c.args.steps.now.world.now (classes_seen c.args.steps.now.lattice.now) a.lattice)) in
    let told = broke c.apply.result c.in-Err-Broken.field-0 c.in-Err-Broken.rule c.give_rows.new.stack.items c.apply.new.stack.items (effect_of fits instr c.in_ok-facts.facts c.give_rows.new.stack.items) raw c.in-Err-Broken.field-0-is in
    let effect = ap (effect_of fits instr c.in_ok-facts.facts) (sym c.give_rows.ensures) ∙ told in
    breaks w file a.part a.method b (record { at = at; instr = instr }) row s c.in_ok-facts.facts fits c.requires.row t sound (up_order w.sources) known whole c.args.stack.now.items c.apply.new.stack.items c.in-Err-Broken.rule effect
